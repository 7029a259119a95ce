-- The traces of calls one after another.
use Rattle.std.proofs.Common.{◌≡◌, ◌∙◌, ℕ, ◌+◌, ◌<◌, ◌≤◌, List, [], ◌∷◌, ◌++◌, drop, length, map, slice_index_or, Option, Some, None, codes, sym, ap, subst, inl, inr, append_assoc, arith}
use Rattle.std.proofs.Math.ListN.{drop_of_length-le}
use Rattle.std.proofs.lemmas.List.{drop_more}
use Rattle.std.specs.Prelude.{IsSome}
use Rattle.json.specs.Json.{Json}
use Rattle.json.specs.Token.{Token, begin_array, end_array, end_object, key}
use Rattle.json.specs.Tree.{items_tokens, json_tokens}
use Rattle.teal_value.specs.declared.failure.Failure.{Failure}
use Rattle.teal_value.specs.declared.failure.Failure.TheVariants as failure
use Rattle.avm_ledger.specs.declared.header.Header.{Header}
use Rattle.avm_ledger.specs.Ledgers.{Ledger}
use Rattle.avm_items.specs.declared.call_data.CallData.{CallData}
use Rattle.avm_call.specs.declared.outcome.Outcome.{Outcome}
use Rattle.avm_call.specs.Replay.{ledger_after, outcome_on}
use Rattle.avm_stepper.specs.Debugging.{Debugged}
use Rattle.avm_block.specs.declared.past_faults.OpenFault.{OpenFault}
use Rattle.avm_block.specs.declared.past_faults.OpenFault.TheVariants as fault
use Rattle.avm_stepper.specs.Opening.{HasNoProgram, HasProgram, IsStartRefusal, program_row}
use Rattle.json_views.specs.Documents.{items_of, member_tokens, text}
use Rattle.json_views.specs.Writing.{Adds}
use Rattle.json_views.specs.declared.refusal.TraceRefusal.{TraceRefusal}
use Rattle.json_views.specs.declared.refusal.TraceRefusal.TheVariants as refusal
use Rattle.json_views.specs.CallTraces.{AddsCallTrace, AddsTraces, IsCallTraceFailure, IsTracesFailure, array_tokens, response_tokens}
use Rattle.json_views.specs.StateRuns.{AddsTrace, IsTraceFailure}
use Rattle.json_views.specs.Traces.{AreCallTraces, IsCallTrace, IsRunTrace, shown_no_run}
use Rattle.json_views.specs.Weights.{IsTooLongBehind, most_text, tokens_weight}
use Rattle.json_views.proofs.RunTraces.{one_run, run_or_none}
use Rattle.json_views.proofs.Steps.{◌then◌}
use Rattle.json_views.proofs.Weights.{weight-append}

abbrev TracedCall : Type 0
TracedCall = CallData × Option Outcome

-- ---- one call

-- a call has one trace over a ledger
pub one_call : (l : Ledger) (call : CallData) (header : Header) (recorded : Option Outcome) (x y : Json) → IsCallTrace l call header recorded x → IsCallTrace l call header recorded y → x ≡ y
one_call l call header recorded x y (inl t) (inl u) = one_run l call header recorded x y t u
one_call l call header recorded x y (inl t) (inr (none, is)) = absurd (run_or_none l call t.program t.runs none)
one_call l call header recorded x y (inr (none, is)) (inl u) = absurd (run_or_none l call u.program u.runs none)
one_call l call header recorded x y (inr (none, is)) (inr (also, same)) = is ∙ sym same

some_or_none : {A : Type 0} (o : Option A) → IsSome o → o ≡ None → ⊥
some_or_none (Some x) some none = cc
some_or_none None some none = cc

-- a stepper before the first instruction of the program of this call
abbrev started : Ledger → Header → CallData → Option Debugged
started l header call = Some (record { ledger = l; call = call; header = header; steps = 0; fault = None })

-- In what follows a call, and how it is said to have ended, are those that are traced.
module _ (l : Ledger) (header : Header) (c : TracedCall) (call : CallData) (recorded : Option Outcome) (same : call ≡ c.0) (told : recorded ≡ c.1) where
  traced : (document : Json) → IsRunTrace l call header recorded document → IsRunTrace l c.0 header c.1 document
  traced document t = subst (λ x. IsRunTrace l x header c.1 document) same (subst (λ r. IsRunTrace l call header r document) told t)

  as_run : (document : Json) → IsRunTrace l c.0 header c.1 document → IsRunTrace l call header recorded document
  as_run document t = subst (λ r. IsRunTrace l call header r document) (sym told) (subst (λ x. IsRunTrace l x header c.1 document) (sym same) t)

  -- what is written by a stepper is the trace of its call
  pub by_stepper : (d : Option Debugged) (old new : List Token) → d ≡ started l header call → AddsTrace d recorded old new → AddsCallTrace l header c old new
  by_stepper d old new is adds = let (document, trace, wrote) = subst (λ m. AddsTrace m recorded old new) is adds in (document, inl (traced document trace), wrote)

  pub failed_by_stepper : (d : Option Debugged) (old : List Token) (why : Failure TraceRefusal) → d ≡ started l header call → HasProgram l call → IsTraceFailure d recorded old why → IsCallTraceFailure l header c old why
  failed_by_stepper d old failure.Memory is some f = tt
  failed_by_stepper d old (failure.Fault refusal.TooLong) is some f = λ document trace. long (subst (λ m. IsTraceFailure m recorded old (failure.Fault refusal.TooLong)) is f) document trace
    where
      long : IsTraceFailure (started l header call) recorded old (failure.Fault refusal.TooLong) → (document : Json) → IsCallTrace l c.0 header c.1 document → most_text < tokens_weight (old ++ json_tokens document)
      long f document (inl t) = f document (as_run document t)
      long f document (inr (none, is)) = absurd (some_or_none (program_row l c.0) (subst (HasProgram l) same some) none)
  failed_by_stepper d old (failure.Fault (refusal.Opening fault)) is some f = absurd (subst (λ m. IsTraceFailure m recorded old (failure.Fault (refusal.Opening fault))) is f)

  -- a call that runs no program was written as one
  pub without_run : (found : Outcome) (old new : List Token) → HasNoProgram l call → found ≡ outcome_on l call header → Adds old new (json_tokens (shown_no_run found recorded)) → AddsCallTrace l header c old new
  without_run found old new none outcome adds =
      (shown_no_run found recorded, inr (subst (HasNoProgram l) same none, λ i. shown_no_run ((outcome ∙ ap (λ x. outcome_on l x header) same) i) (told i)), adds)

  -- the ledger that it leaves
  pub left_by : (after : Ledger) → after ≡ ledger_after l call header → after ≡ ledger_after l c.0 header
  left_by after is = is ∙ ap (λ x. ledger_after l x header) same

-- where nothing is opened but for a lack of memory, no program runs
pub nothing_opened : (l : Ledger) (c : CallData) (f : OpenFault) → IsStartRefusal l c (failure.Fault f) → HasNoProgram l c
nothing_opened l c fault.NoProgram none = none
nothing_opened l c fault.NoEntry none = absurd none
nothing_opened l c fault.WrongBase none = absurd none
nothing_opened l c fault.Pruned none = absurd none

-- ---- calls that are left

-- Where calls stand in front of these, of which the traces were written behind the opening bracket of an array: all traces are
-- those, and those of the calls that are left; and the other way round.
pub record Left (first : Ledger) (header : Header) (all : List TracedCall) (start : List Token) (l : Ledger) (rest : List TracedCall) (out : List Token) : Type 0 where
  pub forth : (ds : List Json) → AreCallTraces l header rest ds → (traces : List Json) × AreCallTraces first header all traces × (out ++ items_tokens (items_of ds) ≡ start ++ array_tokens traces)
  pub back : (traces : List Json) → AreCallTraces first header all traces → (ds : List Json) × AreCallTraces l header rest ds × (out ++ items_tokens (items_of ds) ≡ start ++ array_tokens traces)

pub all_left : (l : Ledger) (header : Header) (calls : List TracedCall) (start out : List Token) → Adds start out (begin_array ∷ []) → Left l header calls start l calls out
all_left l header calls start out begins = record { forth = λ ds are. (ds, are, same ds); back = λ ds are. (ds, are, same ds) }
  where
    same : (ds : List Json) → out ++ items_tokens (items_of ds) ≡ start ++ array_tokens ds
    same ds = ap (λ ts. ts ++ items_tokens (items_of ds)) begins.is ∙ append_assoc start (begin_array ∷ []) (items_tokens (items_of ds))

module _ (first : Ledger) (header : Header) (all : List TracedCall) (start : List Token) (l : Ledger) (c : TracedCall) (rest : List TracedCall) (out : List Token) (left : Left first header all start l (c ∷ rest) out) where
  -- the first of them is written too
  one_left : (new : List Token) → AddsCallTrace l header c out new → Left first header all start (ledger_after l c.0 header) rest new
  one_left new (document, trace, wrote) = record {
    forth = λ ds are.
        let (traces, both, same) = left.forth (document ∷ ds) (trace, are) in
        (traces, both, further ds ∙ same);
    back = λ traces are. let (ds, both, same) = left.back traces are in behind ds both (start ++ array_tokens traces) same;
  }
    where
      further : (ds : List Json) → new ++ items_tokens (items_of ds) ≡ out ++ items_tokens (items_of (document ∷ ds))
      further ds = ap (λ ts. ts ++ items_tokens (items_of ds)) wrote.is ∙ append_assoc out (json_tokens document) (items_tokens (items_of ds))

      behind : (ds : List Json) → AreCallTraces l header (c ∷ rest) ds → (tokens : List Token) → out ++ items_tokens (items_of ds) ≡ tokens
          → (es : List Json) × AreCallTraces (ledger_after l c.0 header) header rest es × (new ++ items_tokens (items_of es) ≡ tokens)
      behind [] are tokens same = absurd are
      behind (d ∷ ds) (is, are) tokens same =
          let one : document ≡ d = one_call l c.0 header c.1 document d trace is in
          (ds, are, further ds ∙ ap (λ e. out ++ items_tokens (items_of (e ∷ ds))) one ∙ same)

  -- the text is too long with the first of them
  pub long_one : IsTooLongBehind out (IsCallTrace l c.0 header c.1) → IsTracesFailure array_tokens first header all start (failure.Fault refusal.TooLong)
  long_one long traces are = let (ds, both, same) = left.back traces are in within ds both (start ++ array_tokens traces) same
    where
      within : (ds : List Json) → AreCallTraces l header (c ∷ rest) ds → (tokens : List Token) → out ++ items_tokens (items_of ds) ≡ tokens → most_text < tokens_weight tokens
      within [] are tokens same = absurd are
      within (d ∷ ds) (is, are) tokens same =
          let more = append_assoc out (json_tokens d) (items_tokens (items_of ds)) ∙ same in
          omega (arith, long d is, ap tokens_weight more, weight-append (out ++ json_tokens d) (items_tokens (items_of ds)))

  failed_one : (why : Failure TraceRefusal) → IsCallTraceFailure l header c out why → IsTracesFailure array_tokens first header all start why
  failed_one failure.Memory f = tt
  failed_one (failure.Fault refusal.TooLong) f = long_one f
  failed_one (failure.Fault (refusal.Opening fault)) f = absurd f

module _ (first : Ledger) (header : Header) (all : List TracedCall) (start : List Token) (l : Ledger) (out : List Token) where
  -- the text is too long already
  pub long_now : (rest : List TracedCall) → Left first header all start l rest out → most_text < tokens_weight out → IsTracesFailure array_tokens first header all start (failure.Fault refusal.TooLong)
  long_now rest left long traces are =
      let (ds, both, same) = left.back traces are in
      omega (arith, long, ap tokens_weight same, weight-append out (items_tokens (items_of ds)))

  -- none is left, and the array is closed
  pub none_left : (closed : List Token) → Left first header all start l [] out → Adds out closed (end_array ∷ []) → AddsTraces array_tokens first header all start closed
  none_left closed left ends =
      let (traces, are, same) = left.forth [] tt in
      (traces, are, record { is = ends.is ∙ same })

-- the calls that are left, by the place of the first of them; none behind the last
pub left_behind : {A : Type 0} (shown : A → TracedCall) (calls : List A) (i : ℕ) → length calls ≤ i → map shown (drop i calls) ≡ []
left_behind shown calls i le = ap (map shown) (drop_of_length-le calls le)

left_at : {A : Type 0} (shown : A → TracedCall) (calls : List A) (i : ℕ) (x : A) → i < length calls → x ≡ slice_index_or calls i x → map shown (drop i calls) ≡ shown x ∷ map shown (drop (i + 1) calls)
left_at shown calls i x lt is =
    let more : drop i calls ≡ x ∷ drop (i + 1) calls = drop_more calls i x lt ∙ ap (λ y. y ∷ drop (i + 1) calls) (sym is) in
    ap (map shown) more

-- a call, where the traces of those in front of it were written
module _ {A : Type 0} (shown : A → TracedCall) (calls : List A) (i : ℕ) (x : A) (inside : i < length calls) (is : x ≡ slice_index_or calls i x) (first : Ledger) (header : Header) (start : List Token) (l : Ledger) (out : List Token) (left : Left first header (map shown calls) start l (map shown (drop i calls)) out) where
  here : Left first header (map shown calls) start l (shown x ∷ map shown (drop (i + 1) calls)) out
  here = subst (λ cs. Left first header (map shown calls) start l cs out) (left_at shown calls i x inside is) left

  -- its trace is not
  pub failed_at : (why : Failure TraceRefusal) → IsCallTraceFailure l header (shown x) out why → IsTracesFailure array_tokens first header (map shown calls) start why
  failed_at = failed_one first header (map shown calls) start l (shown x) (map shown (drop (i + 1) calls)) out here

  -- its trace is, too
  pub written_at : (after : Ledger) (new : List Token) → AddsCallTrace l header (shown x) out new → after ≡ ledger_after l (shown x).0 header → Left first header (map shown calls) start after (map shown (drop (i + 1) calls)) new
  written_at after new adds leaves = subst (λ m. Left first header (map shown calls) start m (map shown (drop (i + 1) calls)) new) (sym leaves) (one_left first header (map shown calls) start l (shown x) (map shown (drop (i + 1) calls)) out here new adds)

-- ---- the response

-- what stands in front of the array of traces
abbrev response_front : List Token
response_front = member_tokens ((codes "error", text []) ∷ (codes "protocol-version", text []) ∷ []) ++ key (codes "txns") ∷ []

pub response_written : (l : Ledger) (header : Header) (calls : List TracedCall) (old named filled new : List Token) → Adds old named response_front → AddsTraces array_tokens l header calls named filled → Adds filled new (end_object ∷ [])
    → AddsTraces response_tokens l header calls old new
response_written l header calls old named filled new opens (traces, are, wrote) ends = (traces, are, opens then wrote then ends)

pub response_failure : (l : Ledger) (header : Header) (calls : List TracedCall) (old named : List Token) (why : Failure TraceRefusal) → Adds old named response_front → IsTracesFailure array_tokens l header calls named why → IsTracesFailure response_tokens l header calls old why
response_failure l header calls old named failure.Memory opens f = tt
response_failure l header calls old named (failure.Fault refusal.TooLong) opens f = λ traces are.
    let shown = array_tokens traces in
    omega (
      arith,
      f traces are,
      ap tokens_weight opens.is,
      weight-append named shown,
      weight-append old response_front,
      weight-append old (response_tokens traces),
      weight-append response_front (shown ++ end_object ∷ []),
      weight-append shown (end_object ∷ []),
    )
response_failure l header calls old named (failure.Fault (refusal.Opening fault)) opens f = absurd f
