-- A stepper on its way through the states of a trace, and what is written of them.
use Rattle.std.specs.Prelude.{◌≡◌, ℕ, suc, ◌-◌, ◌<◌, List, [], ◌∷◌, ◌++◌, Bool, true, false, codes, Option, Some, None}
use Rattle.std.specs.List.{flat_map}
use Rattle.json.specs.Json.{Json}
use Rattle.json.specs.Token.{Token, begin_array, key}
use Rattle.json.specs.Tree.{json_tokens, members_tokens}
use Rattle.teal_code.specs.Limits.{most_cost}
use Rattle.teal_value.specs.declared.failure.Failure.{Failure}
use Rattle.teal_value.specs.declared.failure.Failure.TheVariants as failure
use Rattle.teal_check.specs.WellFormed.{WellFormed}
use Rattle.avm_ledger.specs.declared.header.Header.{Header}
use Rattle.avm_ledger.specs.Ledgers.{Ledger}
use Rattle.avm_items.specs.declared.call_data.CallData.{CallData}
use Rattle.avm_call.specs.declared.outcome.Outcome.{Outcome}
use Rattle.avm_call.specs.Replay.{outcome_on}
use Rattle.avm_call.specs.Views.{NextStep, Runs, Faults, AtEnd, View}
use Rattle.avm_stepper.specs.Debugging.{Debugged, debug_view}
use Rattle.avm_stepper.specs.Shown.{IsProgramOf, MachineState, machine_of}
use Rattle.avm_input.specs.Outcomes.{outcome_text}
use Rattle.avm_stepper.specs.StepsMade.{CanGo, HasMade}
use Rattle.json_views.specs.Documents.{array_of, members_of, text, uint}
use Rattle.json_views.specs.declared.refusal.TraceRefusal.{TraceRefusal}
use Rattle.json_views.specs.declared.refusal.TraceRefusal.TheVariants as refusal
use Rattle.json_views.specs.MachineStates.{shown_state}
use Rattle.json_views.specs.Disassembly.{shown_disassembly}
use Rattle.json_views.specs.Changes.{shown_global_delta, shown_local_deltas}
use Rattle.json_views.specs.Traces.{HasStates, IsRunTrace, first_states, next_cost, recorded_members, states_cost}
use Rattle.json_views.specs.Weights.{IsTooLongBehind, most_text, tokens_weight}
use Rattle.json_views.specs.Writing.{Adds}

-- ---- one state

abbrev pub is_instruction : NextStep → Bool
is_instruction (Runs i) = true
is_instruction (Faults f) = false
is_instruction AtEnd = false

-- The state in which a stepper stands was written, and it is told what the next instruction costs and whether one comes next.
abbrev pub WritesState : WellFormed → Option Debugged → List Token → List Token → ℕ → Bool → Type 0
WritesState p None old new cost goes_on = ⊥
WritesState p (Some d) old new cost goes_on =
    (v : View) × (debug_view d ≡ Some v) × (new ≡ old ++ json_tokens (shown_state p (machine_of v))) × (cost ≡ next_cost v.next) × (goes_on ≡ is_instruction v.next)

-- ---- all states

-- a stepper before the first instruction of a call's program
abbrev pub IsAtStart : Option Debugged → Type 0
IsAtStart None = ⊥
IsAtStart (Some d) = d ≡ record d { steps = 0; fault = None }

-- before that of this call, for a block with this header
abbrev pub IsStartOver : Option Debugged → CallData → Header → Type 0
IsStartOver None call header = ⊥
IsStartOver (Some d) call header = IsAtStart (Some d) × (d.call ≡ call) × (d.header ≡ header)

-- before that of this call, which ends so
abbrev pub IsStartOf : Option Debugged → CallData → Outcome → Type 0
IsStartOf None call found = ⊥
IsStartOf (Some d) call found = IsAtStart (Some d) × (d.call ≡ call) × (found ≡ outcome_on d.ledger d.call d.header)

-- All states were written from the start on, with what their instructions cost, and the stepper stands in the last one.
abbrev pub AddsStates : WellFormed → Option Debugged → Option Debugged → List Token → List Token → ℕ → Type 0
AddsStates p None now old new cost = ⊥
AddsStates p (Some d) now old new cost =
    (count : ℕ) × HasStates d.ledger d.call d.header count × HasMade d.ledger d.call d.header (count - 1) now
    × (new ≡ old ++ json_tokens (array_of (shown_state p) (first_states d.ledger d.call d.header count))) × (cost ≡ states_cost (first_states d.ledger d.call d.header count))

-- the tokens of states, without the brackets of their array
abbrev pub state_tokens : WellFormed → List MachineState → List Token
state_tokens p states = flat_map (λ m. json_tokens (shown_state p m)) states

-- with some states of the program the text is too long
abbrev pub IsHeavy : Ledger → CallData → Header → WellFormed → List Token → Type 0
IsHeavy l call header p old = (n : ℕ) × CanGo l call header n × (most_text < tokens_weight (old ++ (begin_array ∷ state_tokens p (first_states l call header (suc n)))))

-- why the states are not written
abbrev pub IsStatesFailure : WellFormed → Option Debugged → List Token → Failure TraceRefusal → Type 0
IsStatesFailure p d old failure.Memory = Unit {0}
IsStatesFailure p None old (failure.Fault why) = ⊥
IsStatesFailure p (Some d) old (failure.Fault refusal.TooLong) = IsHeavy d.ledger d.call d.header p old
IsStatesFailure p (Some d) old (failure.Fault (refusal.Opening fault)) = ⊥

-- ---- the messages

-- the tokens of texts, without the brackets of their array
abbrev pub message_tokens : List (List ℕ) → List Token
message_tokens messages = flat_map (λ m. json_tokens (text m)) messages

-- ---- the states, what they cost, and the listing

abbrev pub cost_tokens : ℕ → List Token
cost_tokens cost = key (codes "budget-added") ∷ (json_tokens (uint most_cost) ++ (key (codes "budget-consumed") ∷ json_tokens (uint cost)))

abbrev pub run_tokens : WellFormed → List MachineState → List Token
run_tokens p states =
    key (codes "app-call-trace") ∷ (json_tokens (array_of (shown_state p) states) ++ (cost_tokens (states_cost states) ++ (key (codes "disassembly") ∷ json_tokens (shown_disassembly p))))

-- the program of the call through which a stepper goes
abbrev pub IsProgramIn : Option Debugged → WellFormed → Type 0
IsProgramIn None p = ⊥
IsProgramIn (Some d) p = IsProgramOf d.ledger d.call p

-- All states of the program were written, what they cost, and its listing, and the stepper stands in the last state.
abbrev pub AddsRun : Option Debugged → Option Debugged → List Token → List Token → Type 0
AddsRun None now old new = ⊥
AddsRun (Some d) now old new =
    (p : WellFormed) × IsProgramOf d.ledger d.call p
    × ((count : ℕ) × HasStates d.ledger d.call d.header count × HasMade d.ledger d.call d.header (count - 1) now
    × (new ≡ old ++ run_tokens p (first_states d.ledger d.call d.header count)))

-- why they are not written
abbrev pub IsRunFailure : Option Debugged → List Token → Failure TraceRefusal → Type 0
IsRunFailure d old failure.Memory = Unit {0}
IsRunFailure None old (failure.Fault why) = ⊥
IsRunFailure (Some d) old (failure.Fault refusal.TooLong) = (p : WellFormed) × IsProgramOf d.ledger d.call p × IsHeavy d.ledger d.call d.header p (old ++ key (codes "app-call-trace") ∷ [])
IsRunFailure (Some d) old (failure.Fault (refusal.Opening fault)) = ⊥

-- ---- the end of the document

abbrev pub end_tokens : View → Outcome → Option Outcome → List Token
end_tokens last found recorded =
    members_tokens (members_of (
    (codes "global-delta", shown_global_delta last.global_changes)
    ∷ (codes "local-deltas", shown_local_deltas last.local_changes)
    ∷ (codes "outcome", text (outcome_text found))
    ∷ recorded_members recorded))

-- what has changed where a stepper stands was written, and how the call ends and is said to have ended
abbrev pub AddsEnd : Option Debugged → Outcome → Option Outcome → List Token → List Token → Type 0
AddsEnd None found recorded old new = ⊥
AddsEnd (Some d) found recorded old new = (v : View) × (debug_view d ≡ Some v) × (new ≡ old ++ end_tokens v found recorded)

-- ---- one trace

-- The trace of a call was written, by a stepper before its first instruction.
abbrev pub AddsTrace : Option Debugged → Option Outcome → List Token → List Token → Type 0
AddsTrace None recorded old new = ⊥
AddsTrace (Some d) recorded old new = (document : Json) × IsRunTrace d.ledger d.call d.header recorded document × Adds old new (json_tokens document)

abbrev pub IsTraceFailure : Option Debugged → Option Outcome → List Token → Failure TraceRefusal → Type 0
IsTraceFailure d recorded old failure.Memory = Unit {0}
IsTraceFailure None recorded old (failure.Fault why) = ⊥
IsTraceFailure (Some d) recorded old (failure.Fault refusal.TooLong) = IsTooLongBehind old (IsRunTrace d.ledger d.call d.header recorded)
IsTraceFailure (Some d) recorded old (failure.Fault (refusal.Opening fault)) = ⊥
