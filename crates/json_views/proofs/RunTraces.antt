-- The trace of a call whose program runs: there is one, and what is written of it.
use Rattle.std.proofs.Common.{◌≡◌, ◌∙◌, ℕ, suc, ◌-◌, ◌≤◌, List, [], ◌∷◌, ◌++◌, map, Option, Some, None, Result, Ok, codes, sym, ap, subst, inl, inr, append_assoc, arith}
use Rattle.std.proofs.lemmas.Bool.{cases_lt}
use Rattle.json.specs.Json.{Json}
use Rattle.json.specs.Token.{Token, begin_array, begin_object, end_array, end_object, key}
use Rattle.json.specs.Tree.{items_tokens, json_tokens, members_tokens}
use Rattle.teal_value.specs.declared.failure.Failure.{Failure}
use Rattle.teal_value.specs.declared.failure.Failure.TheVariants as failure
use Rattle.teal_check.specs.declared.fault.CheckFault.{CheckFault}
use Rattle.teal_check.specs.WellFormed.{WellFormed, checked}
use Rattle.avm_ledger.specs.declared.application.Application.{Application}
use Rattle.avm_ledger.specs.declared.header.Header.{Header}
use Rattle.avm_ledger.specs.Ledgers.{Ledger}
use Rattle.avm_items.specs.declared.call_data.CallData.{CallData}
use Rattle.avm_call.specs.declared.outcome.Outcome.{Outcome}
use Rattle.avm_call.specs.Calls.{program_of}
use Rattle.avm_call.specs.Replay.{outcome_on}
use Rattle.avm_call.specs.Views.{View, view_after}
use Rattle.avm_stepper.specs.Debugging.{Debugged}
use Rattle.avm_stepper.specs.declared.view.View.{View as ShownView}
use Rattle.avm_stepper.specs.Opening.{HasNoProgram}
use Rattle.avm_stepper.specs.Shown.{IsProgramOf, IsShown, MachineState, view_seen}
use Rattle.avm_input.specs.Outcomes.{outcome_text}
use Rattle.avm_stepper.specs.StepsMade.{CanGo}
use Rattle.json_views.specs.Documents.{array_of, items_of, member_tokens, members_of, text}
use Rattle.json_views.specs.Writing.{Adds}
use Rattle.json_views.specs.declared.refusal.TraceRefusal.{TraceRefusal}
use Rattle.json_views.specs.declared.refusal.TraceRefusal.TheVariants as refusal
use Rattle.json_views.specs.Disassembly.{shown_disassembly}
use Rattle.json_views.specs.MachineStates.{shown_state}
use Rattle.json_views.specs.StateRuns.{AddsEnd, AddsRun, AddsStates, AddsTrace, IsHeavy, IsProgramIn, IsRunFailure, IsStartOf, IsStatesFailure, IsTraceFailure, cost_tokens, end_tokens, message_tokens, run_tokens, state_tokens}
use Rattle.json_views.specs.Traces.{HasStates, IsRunTrace, first_states, recorded_members, shown_messages, shown_run, states_cost}
use Rattle.json_views.specs.Weights.{IsTooLongBehind, tokens_weight}
use Rattle.json_views.proofs.StateRuns.{states_grow}
use Rattle.json_views.proofs.Steps.{◌then◌}
use Rattle.json_views.proofs.TokenRuns.{closed}
use Rattle.json_views.proofs.Weights.{weight-append}

-- ---- one trace

same_count : (l : Ledger) (call : CallData) (header : Header) (m n : ℕ) → HasStates l call header m → HasStates l call header n → m ≤ n
same_count l call header m n s t = elim (cases_lt n m) [
  | inl below ↦ absurd (t.ends (s.go_on (n - 1) (omega (arith, below, t.some))))
  | inr above ↦ above
]

one_row : (x y : Application) → Some x ≡ Some y → x ≡ y
one_row x y e = cc

one_checked : (x y : WellFormed) → ◌≡◌ {A = Result WellFormed CheckFault} (Ok x) (Ok y) → x ≡ y
one_checked x y e = cc

one_view : (x y : View) → Some x ≡ Some y → x ≡ y
one_view x y e = cc

-- a call runs one program
pub one_program : (l : Ledger) (call : CallData) (p q : WellFormed) → IsProgramOf l call p → IsProgramOf l call q → p ≡ q
one_program l call p q a c =
    let row : a.row ≡ c.row = one_row a.row c.row (sym a.there ∙ c.there) in
    one_checked p q (sym a.program ∙ ap (λ r. checked (program_of call.completion r)) row ∙ c.program)

-- a call whose program runs has one trace over a ledger
pub one_run : (l : Ledger) (call : CallData) (header : Header) (recorded : Option Outcome) (x y : Json) → IsRunTrace l call header recorded x → IsRunTrace l call header recorded y → x ≡ y
one_run l call header recorded x y t u =
    let count : t.count ≡ u.count = omega (arith, same_count l call header t.count u.count t.states u.states, same_count l call header u.count t.count u.states t.states) in
    let program = one_program l call t.program u.program t.runs u.runs in
    let last : t.last ≡ u.last = one_view t.last u.last (sym t.at_end ∙ ap (λ n. view_after l call header (n - 1)) count ∙ u.at_end) in
    t.is ∙ (λ i. shown_run call (program i) (first_states l call header (count i)) (last i) (outcome_on l call header) recorded) ∙ sym u.is

-- a call whose program runs is none that runs no program
pub run_or_none : (l : Ledger) (call : CallData) (p : WellFormed) → IsProgramOf l call p → HasNoProgram l call → ⊥
run_or_none l call p is none = let both = sym is.there ∙ none in absurd cc

-- ---- a trace that is too long

-- it has at least so many states
count_above : (l : Ledger) (call : CallData) (header : Header) (n count : ℕ) → CanGo l call header n → HasStates l call header count → suc n ≤ count
count_above l call header n count can s = elim (cases_lt n count) [
  | inl above ↦ omega (arith, above)
  | inr below ↦ absurd (s.ends (can (count - 1) (omega (arith, below, s.some))))
]

abbrev front : List Token → List Token
front messages = begin_object ∷ key (codes "app-call-messages") ∷ messages

-- what stands in front of the array of states, and behind it
abbrev states_front : CallData → Outcome → List Token
states_front call found = front (json_tokens (shown_messages call.completion found)) ++ key (codes "app-call-trace") ∷ []

abbrev states_end : WellFormed → List MachineState → View → Outcome → Option Outcome → List Token
states_end p states last found recorded = cost_tokens (states_cost states) ++ (key (codes "disassembly") ∷ (json_tokens (shown_disassembly p) ++ end_tokens last found recorded))

run_parts : (call : CallData) (p : WellFormed) (states : List MachineState) (last : View) (found : Outcome) (recorded : Option Outcome)
    → json_tokens (shown_run call p states last found recorded) ≡ states_front call found ++ (json_tokens (array_of (shown_state p) states) ++ states_end p states last found recorded)
run_parts call p states last found recorded =
    let rest = json_tokens (array_of (shown_state p) states) ++ states_end p states last found recorded in
    sym (append_assoc (front (json_tokens (shown_messages call.completion found))) (key (codes "app-call-trace") ∷ []) rest)

-- where the text is too long with some of the states, it is with the whole trace
pub heavy_is_long : (l : Ledger) (call : CallData) (header : Header) (recorded : Option Outcome) (p : WellFormed) (start : List Token) → IsProgramOf l call p
    → IsHeavy l call header p (start ++ states_front call (outcome_on l call header)) → IsTooLongBehind start (IsRunTrace l call header recorded)
heavy_is_long l call header recorded p start runs (n, can, heavy) document t =
    let found = outcome_on l call header in
    let same : p ≡ t.program = one_program l call p t.program runs t.runs in
    let before = states_front call found in
    let states = first_states l call header t.count in
    let some = state_tokens p (first_states l call header (suc n)) in
    let behind = states_end p states t.last found recorded in
    let shown = json_tokens (array_of (shown_state p) states) in
    let all : document ≡ shown_run call p states t.last found recorded = t.is ∙ ap (λ q. shown_run call q states t.last found recorded) (sym same) in
    let tokens = ap json_tokens all ∙ run_parts call p states t.last found recorded in
    omega (
      arith,
      heavy,
      weight-append (start ++ before) (begin_array ∷ some),
      weight-append start before,
      states_grow l call header p (suc n) t.count (count_above l call header n t.count can t.states),
      ap tokens_weight (closed (shown_state p) states),
      weight-append (state_tokens p states) (end_array ∷ []),
      weight-append shown behind,
      weight-append before (shown ++ behind),
      ap tokens_weight tokens,
      weight-append start (json_tokens document),
    )

-- ---- the states, what they cost, and the listing

pub run_failure : (d : Option Debugged) (p : WellFormed) (start named : List Token) (why : Failure TraceRefusal) → IsProgramIn d p → Adds start named (key (codes "app-call-trace") ∷ []) → IsStatesFailure p d named why → IsRunFailure d start why
run_failure d p start named failure.Memory program names f = tt
run_failure None p start named (failure.Fault why) program names f = absurd f
run_failure (Some d) p start named (failure.Fault refusal.TooLong) program names f = (p, program, subst (IsHeavy d.ledger d.call d.header p) names.is f)
run_failure (Some d) p start named (failure.Fault (refusal.Opening fault)) program names f = absurd f

pub run_written : (d now : Option Debugged) (p : WellFormed) (cost : ℕ) (start named shown budgeted headed new : List Token) → IsProgramIn d p → Adds start named (key (codes "app-call-trace") ∷ []) → AddsStates p d now named shown cost
    → Adds shown budgeted (cost_tokens cost) → Adds budgeted headed (key (codes "disassembly") ∷ []) → Adds headed new (json_tokens (shown_disassembly p)) → AddsRun d now start new
run_written None now p cost start named shown budgeted headed new program names states budgets heads lists = absurd program
run_written (Some d) now p cost start named shown budgeted headed new program names (count, all, made, wrote, costs) budgets heads lists =
    let found = first_states d.ledger d.call d.header count in
    let states : Adds named shown (json_tokens (array_of (shown_state p) found)) = record { is = wrote } in
    let budget = subst (λ c. Adds shown budgeted (cost_tokens c)) costs budgets in (
      p,
      program,
      (count, all, made, (names then states then budget then heads then lists).is),
    )

pub end_written : (d : Option Debugged) (v : ShownView) (found : Outcome) (recorded : Option Outcome) (old new : List Token) → IsShown d (Ok v) → Adds old new (end_tokens (view_seen v) found recorded) → AddsEnd d found recorded old new
end_written None v found recorded old new shown adds = absurd shown
end_written (Some d) v found recorded old new shown adds = (view_seen v, shown, adds.is)

-- how a call ends and is said to have ended was written, and the object is closed
pub ending_written : {old filled new : List Token} (found : Outcome) (recorded : Option Outcome) → Adds old filled (member_tokens ((codes "outcome", text (outcome_text found)) ∷ recorded_members recorded)) → Adds filled new (end_object ∷ [])
    → Adds old new (members_tokens (members_of ((codes "outcome", text (outcome_text found)) ∷ recorded_members recorded)))
ending_written found None wrote ends = wrote then ends
ending_written found (Some o) wrote ends = wrote then ends

-- some messages and the closing bracket of their array
pub messages_written : {old filled new : List Token} (messages : List (List ℕ)) → Adds old filled (message_tokens messages) → Adds filled new (end_array ∷ []) → Adds old new (items_tokens (items_of (map text messages)))
messages_written {old = old} messages wrote ends = record { is = (wrote then ends).is ∙ ap (λ ts. old ++ ts) (closed text messages) }

-- ---- the trace

written_tokens : (call : CallData) (p : WellFormed) (states : List MachineState) (last : View) (found : Outcome) (recorded : Option Outcome) (old first second all : List Token)
    → Adds old first (front (json_tokens (shown_messages call.completion found))) → second ≡ first ++ run_tokens p states → all ≡ second ++ end_tokens last found recorded
    → Adds old all (json_tokens (shown_run call p states last found recorded))
written_tokens call p states last found recorded old first second all begins runs ends =
    let messages = json_tokens (shown_messages call.completion found) in
    let shown = json_tokens (array_of (shown_state p) states) in
    let costs = cost_tokens (states_cost states) in
    let listed = json_tokens (shown_disassembly p) in
    let end = end_tokens last found recorded in
    let run : Adds first second (run_tokens p states) = record { is = runs } in
    let closes : Adds second all end = record { is = ends } in
    let tail : run_tokens p states ++ end ≡ key (codes "app-call-trace") ∷ (shown ++ states_end p states last found recorded) =
    ap (λ ts. key (codes "app-call-trace") ∷ ts)
    (append_assoc shown (costs ++ (key (codes "disassembly") ∷ listed)) end ∙ ap (λ ts. shown ++ ts) (append_assoc costs (key (codes "disassembly") ∷ listed) end)) in
    record { is = (begins then run then closes).is ∙ ap (λ ts. old ++ (front messages ++ ts)) tail }

pub trace_written : (d now : Option Debugged) (call : CallData) (found : Outcome) (recorded : Option Outcome) (old first second all : List Token) → IsStartOf d call found
    → Adds old first (front (json_tokens (shown_messages call.completion found))) → AddsRun d now first second → AddsEnd now found recorded second all → AddsTrace d recorded old all
trace_written None now call found recorded old first second all start begins runs ends = absurd start
trace_written (Some d) now call found recorded old first second all (at, same_call, outcome) begins (p, program, (count, states, made, wrote)) ends =
    let (v, view, closes) = subst (λ m. AddsEnd m found recorded second all) made.is ends in
    let shown = first_states d.ledger d.call d.header count in
    let document = shown_run d.call p shown v found recorded in
    let opens = subst (λ (c : CallData). Adds old first (front (json_tokens (shown_messages c.completion found)))) (sym same_call) begins in (
      document,
      record {
        program = p;
        runs = program;
        count = count;
        states = states;
        last = v;
        at_end = subst (λ n. view_after d.ledger d.call d.header n ≡ Some v) made.counted view;
        is = ap (λ o. shown_run d.call p shown v o recorded) outcome;
      },
      written_tokens d.call p shown v found recorded old first second all opens wrote closes,
    )

-- where the states are not written, the trace is not for the same reason
pub trace_failure : (d : Option Debugged) (call : CallData) (found : Outcome) (recorded : Option Outcome) (old first : List Token) (why : Failure TraceRefusal) → IsStartOf d call found
    → Adds old first (front (json_tokens (shown_messages call.completion found))) → IsRunFailure d first why → IsTraceFailure d recorded old why
trace_failure d call found recorded old first failure.Memory start begins f = tt
trace_failure None call found recorded old first (failure.Fault why) start begins f = absurd f
trace_failure (Some d) call found recorded old first (failure.Fault refusal.TooLong) (at, same_call, outcome) begins (p, program, heavy) =
    let opens : Adds old first (front (json_tokens (shown_messages d.call.completion (outcome_on d.ledger d.call d.header)))) =
    subst (λ (o : Outcome). Adds old first (front (json_tokens (shown_messages d.call.completion o)))) outcome
    (subst (λ (c : CallData). Adds old first (front (json_tokens (shown_messages c.completion found)))) (sym same_call) begins) in
    let before = front (json_tokens (shown_messages d.call.completion (outcome_on d.ledger d.call d.header))) in
    let named : first ++ key (codes "app-call-trace") ∷ [] ≡ old ++ (before ++ key (codes "app-call-trace") ∷ []) =
    ap (λ ts. ts ++ key (codes "app-call-trace") ∷ []) opens.is ∙ append_assoc old before (key (codes "app-call-trace") ∷ []) in
    heavy_is_long d.ledger d.call d.header recorded p old program (subst (IsHeavy d.ledger d.call d.header p) named heavy)
trace_failure (Some d) call found recorded old first (failure.Fault (refusal.Opening fault)) start begins f = absurd f
