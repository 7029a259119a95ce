-- What is found of a block or a document, from what was written.
use Rattle.std.proofs.Common.{◌≡◌, ◌∙◌, ℕ, ◌<◌, ◌≤◌, List, [], ◌∷◌, ◌++◌, length, map, Option, Some, None, codes, refl, sym, ap, subst, append-nil, append_assoc, arith}
use Rattle.std.specs.Prelude.{IsSome}
use Rattle.json.specs.Json.{Json}
use Rattle.json.specs.Layout.{pretty}
use Rattle.json.specs.Token.{Token, begin_object, key}
use Rattle.json.specs.Tree.{json_tokens}
use Rattle.teal_value.specs.declared.failure.Failure.{Failure}
use Rattle.teal_value.specs.declared.failure.Failure.TheVariants as failure
use Rattle.avm_ledger.specs.declared.header.Header.{Header}
use Rattle.avm_ledger.specs.Ledgers.{Ledger}
use Rattle.avm_ledger.specs.Encodings.{ledger_digest}
use Rattle.avm_items.specs.declared.call_data.CallData.{CallData}
use Rattle.avm_call.specs.declared.outcome.Outcome.{Outcome}
use Rattle.avm_call.specs.Replay.{ledger_after, outcome_on, replayed}
use Rattle.avm_block.specs.declared.entry.Entry.{Entry}
use Rattle.avm_block.specs.Blocks.{Block}
use Rattle.avm_stepper.specs.Debugging.{Debugged}
use Rattle.avm_block.specs.declared.past_faults.OpenFault.{OpenFault}
use Rattle.avm_stepper.specs.Opening.{IsDebugRefusal, IsOpened, entry_numbered, ledger_before}
use Rattle.avm_stepper.specs.Shown.{IsLedgerOf}
use Rattle.avm_input.specs.ProposeInputs.{ProposeInput}
use Rattle.json_views.specs.Documents.{Member, document_text, member_tokens, object_of}
use Rattle.json_views.specs.Writing.{Adds}
use Rattle.json_views.specs.declared.refusal.TraceRefusal.{TraceRefusal}
use Rattle.json_views.specs.declared.refusal.TraceRefusal.TheVariants as refusal
use Rattle.json_views.specs.CallTraces.{AddsDocument, AddsTraces, FindsRefusal, FindsText, IsDocumentFailure, IsEntryFailure, IsTextFailure, IsTextWithin, IsTracesFailure, response_tokens}
use Rattle.json_views.specs.Runs.{FindsRun, IsRun, unrecorded_call}
use Rattle.json_views.specs.ShownLedgers.{shown_ledger}
use Rattle.json_views.specs.StateRuns.{AddsTrace, IsStartOf, IsStartOver, IsTraceFailure}
use Rattle.json_views.specs.Traces.{AreCallTraces, FindsBlock, FindsEntry, HasTrace, IsBlockTrace, IsEntryTrace, IsRunTrace, recorded_call, response_members}
use Rattle.json_views.specs.Weights.{IsTooLongBehind, most_text, tokens_weight}
use Rattle.json_views.proofs.CallTraces.{one_call}
use Rattle.json_views.proofs.RunTraces.{one_run}
use Rattle.json_views.proofs.Steps.{◌then◌}
use Rattle.json_views.proofs.TokenRuns.{members_behind}
use Rattle.json_views.proofs.Weights.{text_fits}

-- ---- an entry

-- what was opened at an entry stands before the first instruction of its call
pub start_of : (base : Ledger) (b : Block) (number : ℕ) (d : Option Debugged) (e : Entry) (header : Header) → IsOpened base b number d → entry_numbered b.entries number ≡ Some e → header ≡ b.header → IsStartOver d e.call header
start_of base b number d e header o there same =
    let entry : o.entry ≡ e = some_same o.entry e (sym o.there ∙ there) in
    subst (λ m. IsStartOver m e.call header) (sym o.now) (refl, ap (λ (x : Entry). x.call) entry, sym same)
  where
    some_same : (x y : Entry) → Some x ≡ Some y → x ≡ y
    some_same x y e = cc

-- where the outcome of its call is known, it stands before that of a call that ends so
pub start_ending : (d : Option Debugged) (call : CallData) (header : Header) (l : Ledger) (found : Outcome) → IsStartOver d call header → IsLedgerOf d l → found ≡ outcome_on l call header → IsStartOf d call found
start_ending None call header l found start ledger outcome = absurd start
start_ending (Some d) call header l found (at, same_call, same_header) ledger outcome = (at, same_call, outcome ∙ (λ i. outcome_on (ledger i) (sym same_call i) (sym same_header i)))

module _ (base : Ledger) (b : Block) (number : ℕ) (d : Option Debugged) (e : Entry) (o : IsOpened base b number d) (there : entry_numbered b.entries number ≡ Some e) where
  same_entry : (x y : Entry) → Some x ≡ Some y → x ≡ y
  same_entry x y is = cc

  opened_entry : o.entry ≡ e
  opened_entry = same_entry o.entry e (sym o.there ∙ there)

  has_trace : HasTrace base b number
  has_trace = record { entry = o.entry; there = o.there; same_base = o.same_base; program = o.program }

  trace_of : (document : Json) → IsEntryTrace base b number document → IsRunTrace (ledger_before base b o.entry) o.entry.call b.header (Some e.outcome) document
  trace_of document t =
      let same : t.entry ≡ o.entry = same_entry t.entry o.entry (sym t.there ∙ o.there) in
      subst (λ r. IsRunTrace (ledger_before base b o.entry) o.entry.call b.header (Some r) document) (ap (λ (x : Entry). x.outcome) opened_entry)
      (subst (λ (x : Entry). IsRunTrace (ledger_before base b x) x.call b.header (Some x.outcome) document) same t.trace)

  entry_trace : (document : Json) → IsRunTrace (ledger_before base b o.entry) o.entry.call b.header (Some e.outcome) document → IsEntryTrace base b number document
  entry_trace document t =
      record {
        entry = o.entry;
        there = o.there;
        same_base = o.same_base;
        trace = subst (λ r. IsRunTrace (ledger_before base b o.entry) o.entry.call b.header (Some r) document) (sym (ap (λ (x : Entry). x.outcome) opened_entry)) t;
      }

  -- its trace was written
  pub entry_written : (old new : List Token) → AddsTrace d (Some e.outcome) old new → AddsDocument (IsEntryTrace base b number) old new
  entry_written old new adds =
      let (document, trace, wrote) = subst (λ m. AddsTrace m (Some e.outcome) old new) o.now adds in
      (document, entry_trace document trace, wrote)

  -- or is not
  pub entry_failed : (old : List Token) (why : Failure TraceRefusal) → IsTraceFailure d (Some e.outcome) old why → IsEntryFailure base b number old why
  entry_failed old failure.Memory f = tt
  entry_failed old (failure.Fault refusal.TooLong) f =
      let long = subst (λ m. IsTraceFailure m (Some e.outcome) old (failure.Fault refusal.TooLong)) o.now f in
      (has_trace, λ document t. long document (trace_of document t))
  entry_failed old (failure.Fault (refusal.Opening fault)) f = absurd (subst (λ m. IsTraceFailure m (Some e.outcome) old (failure.Fault (refusal.Opening fault))) o.now f)

-- where nothing was opened nothing is written
pub not_opened : (base : Ledger) (b : Block) (number : ℕ) (fault : OpenFault) → IsDebugRefusal base b number (failure.Fault fault) → (old : List Token) → IsEntryFailure base b number old (failure.Fault (refusal.Opening fault))
not_opened base b number fault refused old = refused

-- an entry's call has one trace
pub one_entry : (base : Ledger) (b : Block) (number : ℕ) (x y : Json) → IsEntryTrace base b number x → IsEntryTrace base b number y → x ≡ y
one_entry base b number x y t u =
    let same : u.entry ≡ t.entry = some_same u.entry t.entry (sym u.there ∙ t.there) in
    one_run (ledger_before base b t.entry) t.entry.call b.header (Some t.entry.outcome) x y t.trace
    (subst (λ (e : Entry). IsRunTrace (ledger_before base b e) e.call b.header (Some e.outcome) y) same u.trace)
  where
    some_same : (x y : Entry) → Some x ≡ Some y → x ≡ y
    some_same x y e = cc

-- a call whose program has a trace has a program
pub with_program : (base : Ledger) (b : Block) (number : ℕ) (document : Json) → IsEntryTrace base b number document → HasTrace base b number
with_program base b number document t = record { entry = t.entry; there = t.there; same_base = t.same_base; program = subst IsSome (sym t.trace.runs.there) refl }

-- ---- the text of what was written

module _ (Is : Json → Type 0) (start : List Token) (none : start ≡ []) where
  text_found : (all : List Token) (bytes : List ℕ) → AddsDocument Is start all → IsTextWithin all bytes → (document : Json) × Is document × (length (document_text document) ≤ most_text) × (bytes ≡ document_text document)
  text_found all bytes (document, it, wrote) (is, short) =
      let tokens : all ≡ json_tokens document = wrote.is ∙ ap (λ ts. ts ++ json_tokens document) none in
      let text : bytes ≡ document_text document = is ∙ ap (λ ts. pretty ts ++ codes "\n") tokens in
      (document, it, subst (λ t. length t ≤ most_text) text short, text)

  text_refused : IsTooLongBehind start Is → (document : Json) → Is document → most_text < length (document_text document)
  text_refused long document it = omega (arith, text_fits document, long document it, ap (λ ts. tokens_weight (ts ++ json_tokens document)) none)

  text_long : ((x y : Json) → Is x → Is y → x ≡ y) → (all : List Token) → AddsDocument Is start all → IsTextFailure all (failure.Fault refusal.TooLong) → (document : Json) → Is document → most_text < length (document_text document)
  text_long one all (document, it, wrote) long other other_is =
      let tokens : all ≡ json_tokens document = wrote.is ∙ ap (λ ts. ts ++ json_tokens document) none in
      subst (λ j. most_text < length (document_text j)) (one document other it other_is) (subst (λ ts. most_text < length (pretty ts ++ codes "\n")) tokens long)

-- of an entry
module _ (base : Ledger) (b : Block) (number : ℕ) (start : List Token) (none : start ≡ []) where
  pub entry_found : (all : List Token) (bytes : List ℕ) → AddsDocument (IsEntryTrace base b number) start all → IsTextWithin all bytes → FindsText (FindsEntry (base, b) number) bytes
  entry_found all bytes adds within = let (document, it, short, text) = text_found (IsEntryTrace base b number) start none all bytes adds within in (document, (it, short), text)

  pub entry_refused : (why : Failure TraceRefusal) → IsEntryFailure base b number start why → FindsRefusal (FindsEntry (base, b) number) why
  entry_refused failure.Memory f = tt
  entry_refused (failure.Fault refusal.TooLong) (has, long) = (has, text_refused (IsEntryTrace base b number) start none long)
  entry_refused (failure.Fault (refusal.Opening fault)) f = f

  pub entry_long : (all : List Token) (why : Failure TraceRefusal) → AddsDocument (IsEntryTrace base b number) start all → IsTextFailure all why → FindsRefusal (FindsEntry (base, b) number) why
  entry_long all failure.Memory adds f = tt
  entry_long all (failure.Fault refusal.TooLong) adds f =
      (with_program base b number adds.0 adds.1, text_long (IsEntryTrace base b number) start none (one_entry base b number) all adds f)
  entry_long all (failure.Fault (refusal.Opening fault)) adds f = absurd f

-- ---- the parts of what is asked

-- what holds of one ledger, header and list holds of those that they are
pub of_parts : {A : Type 0} (P : Ledger → Header → List A → Type 0) (l m : Ledger) (h k : Header) (xs ys : List A) → l ≡ m → h ≡ k → xs ≡ ys → P l h xs → P m k ys
of_parts P l m h k xs ys ledger header list p = subst (λ x. P x k ys) ledger (subst (λ x. P l x ys) header (subst (P l h) list p))

-- ---- calls one after another

-- they have one list of traces
one_list : (l : Ledger) (header : Header) (calls : List (CallData × Option Outcome)) (xs ys : List Json) → AreCallTraces l header calls xs → AreCallTraces l header calls ys → xs ≡ ys
one_list l header [] [] [] are also = refl
one_list l header [] [] (y ∷ ys) are also = absurd also
one_list l header [] (x ∷ xs) ys are also = absurd are
one_list l header (c ∷ cs) [] ys are also = absurd are
one_list l header (c ∷ cs) (x ∷ xs) [] are also = absurd also
one_list l header (c ∷ cs) (x ∷ xs) (y ∷ ys) (is, are) (it, also) =
    let one = one_call l c.0 header c.1 x y is it in
    let more = one_list (ledger_after l c.0 header) header cs xs ys are also in (λ i. one i ∷ more i)

-- a response with members in front
record IsResponse (l : Ledger) (header : Header) (calls : List (CallData × Option Outcome)) (first : List Member) (document : Json) : Type 0 where
  pub traces : List Json
  pub are : AreCallTraces l header calls traces
  pub is : document ≡ object_of (first ++ response_members traces)

module _ (l : Ledger) (header : Header) (calls : List (CallData × Option Outcome)) (first : List Member) (opened : List Token) (opens : opened ≡ begin_object ∷ member_tokens first) where
  response_is : (traces : List Json) → opened ++ response_tokens traces ≡ json_tokens (object_of (first ++ response_members traces))
  response_is traces = ap (λ ts. ts ++ response_tokens traces) opens ∙ ap (λ ts. begin_object ∷ ts) (sym (members_behind first (response_members traces)))

  response_found : (all : List Token) (bytes : List ℕ) → AddsTraces response_tokens l header calls opened all → IsTextWithin all bytes
      → (document : Json) × IsResponse l header calls first document × (length (document_text document) ≤ most_text) × (bytes ≡ document_text document)
  response_found all bytes (traces, are, wrote) (is, short) =
      let document = object_of (first ++ response_members traces) in
      let text : bytes ≡ document_text document = is ∙ ap (λ ts. pretty ts ++ codes "\n") (wrote.is ∙ response_is traces) in
      (document, record { traces = traces; are = are; is = refl }, subst (λ t. length t ≤ most_text) text short, text)

  response_refused : IsTracesFailure response_tokens l header calls opened (failure.Fault refusal.TooLong) → (document : Json) → IsResponse l header calls first document → most_text < length (document_text document)
  response_refused long document r = omega (arith, text_fits document, long r.traces r.are, ap tokens_weight (response_is r.traces ∙ ap json_tokens (sym r.is)))

  response_long : (all : List Token) → AddsTraces response_tokens l header calls opened all → IsTextFailure all (failure.Fault refusal.TooLong) → (document : Json) → IsResponse l header calls first document → most_text < length (document_text document)
  response_long all (traces, are, wrote) long document r =
      let same = one_list l header calls traces r.traces are r.are in
      let tokens : all ≡ json_tokens document = wrote.is ∙ response_is traces ∙ ap (λ ts. json_tokens (object_of (first ++ response_members ts))) same ∙ ap json_tokens (sym r.is) in
      subst (λ ts. most_text < length (pretty ts ++ codes "\n")) tokens long

-- ---- a block

-- the calls of its entries have one list of traces
pub one_block : (base : Ledger) (b : Block) (x y : Json) → IsBlockTrace base b x → IsBlockTrace base b y → x ≡ y
one_block base b x y t u = t.is ∙ ap (λ ts. object_of (response_members ts)) (one_list base b.header (map recorded_call b.entries) t.traces u.traces t.are u.are) ∙ sym u.is

-- behind an opening bracket the members of the response were written
module _ (base : Ledger) (b : Block) (same_base : b.base ≡ ledger_digest base) (old opened : List Token) (opens : Adds old opened (begin_object ∷ [])) where
  abbrev recorded : List (CallData × Option Outcome)
  recorded = map recorded_call b.entries

  pub block_written : (new : List Token) → AddsTraces response_tokens base b.header recorded opened new → AddsDocument (IsBlockTrace base b) old new
  block_written new (traces, are, wrote) = (object_of (response_members traces), record { same_base = same_base; traces = traces; are = are; is = refl }, record { is = (opens then wrote).is })

  pub block_failed : (why : Failure TraceRefusal) → IsTracesFailure response_tokens base b.header recorded opened why → IsDocumentFailure (IsBlockTrace base b) old why
  block_failed failure.Memory f = tt
  block_failed (failure.Fault refusal.TooLong) f = λ document t.
      let tokens : opened ++ response_tokens t.traces ≡ old ++ json_tokens document =
      ap (λ ts. ts ++ response_tokens t.traces) opens.is ∙ append_assoc old (begin_object ∷ []) (response_tokens t.traces) ∙ ap (λ j. old ++ json_tokens j) (sym t.is) in
      omega (arith, f t.traces t.are, ap tokens_weight tokens)
  block_failed (failure.Fault (refusal.Opening fault)) f = absurd f

-- the text of it
module _ (base : Ledger) (b : Block) (same_base : b.base ≡ ledger_digest base) (start : List Token) (none : start ≡ []) where
  pub block_found : (all : List Token) (bytes : List ℕ) → AddsDocument (IsBlockTrace base b) start all → IsTextWithin all bytes → FindsText (FindsBlock (base, b)) bytes
  block_found all bytes adds within = let (document, it, short, text) = text_found (IsBlockTrace base b) start none all bytes adds within in (document, (it, short), text)

  pub block_refused : (why : Failure TraceRefusal) → IsDocumentFailure (IsBlockTrace base b) start why → FindsRefusal (FindsBlock (base, b)) why
  block_refused failure.Memory f = tt
  block_refused (failure.Fault refusal.TooLong) f = (same_base, text_refused (IsBlockTrace base b) start none f)
  block_refused (failure.Fault (refusal.Opening fault)) f = absurd f

  pub block_long : (all : List Token) (why : Failure TraceRefusal) → AddsDocument (IsBlockTrace base b) start all → IsTextFailure all why → FindsRefusal (FindsBlock (base, b)) why
  block_long all failure.Memory adds f = tt
  block_long all (failure.Fault refusal.TooLong) adds f = (same_base, text_long (IsBlockTrace base b) start none (one_block base b) all adds f)
  block_long all (failure.Fault (refusal.Opening fault)) adds f = absurd f

-- ---- a run

-- the ledger after stands in front of the members of each response
pub run_opens : (after : Ledger) (none opened : List Token) → none ≡ [] → Adds none opened (begin_object ∷ key (codes "after") ∷ json_tokens (shown_ledger after)) → opened ≡ begin_object ∷ member_tokens ((codes "after", shown_ledger after) ∷ [])
run_opens after none opened is adds =
    let shown = json_tokens (shown_ledger after) in
    adds.is ∙ ap (λ ts. ts ++ begin_object ∷ key (codes "after") ∷ shown) is ∙ ap (λ ts. begin_object ∷ key (codes "after") ∷ ts) (sym (append-nil shown))

module _ (input : ProposeInput) (opened : List Token) (opens : opened ≡ begin_object ∷ member_tokens ((codes "after", shown_ledger (replayed input.base input.header input.calls)) ∷ [])) where
  abbrev unrecorded : List (CallData × Option Outcome)
  unrecorded = map unrecorded_call input.calls

  abbrev first : List Member
  first = (codes "after", shown_ledger (replayed input.base input.header input.calls)) ∷ []

  run_response : (document : Json) → IsRun input document → IsResponse input.base input.header unrecorded first document
  run_response document t = record { traces = t.traces; are = t.are; is = t.is }

  pub run_found : (all : List Token) (bytes : List ℕ) → AddsTraces response_tokens input.base input.header unrecorded opened all → IsTextWithin all bytes → FindsText (FindsRun input) bytes
  run_found all bytes adds within =
      let (document, r, short, text) = response_found input.base input.header unrecorded first opened opens all bytes adds within in
      (document, (record { traces = r.traces; are = r.are; is = r.is }, short), text)

  pub run_refused : (why : Failure TraceRefusal) → IsTracesFailure response_tokens input.base input.header unrecorded opened why → FindsRefusal (FindsRun input) why
  run_refused failure.Memory f = tt
  run_refused (failure.Fault refusal.TooLong) f = λ document t. response_refused input.base input.header unrecorded first opened opens f document (run_response document t)
  run_refused (failure.Fault (refusal.Opening fault)) f = absurd f

  pub run_long : (all : List Token) (why : Failure TraceRefusal) → AddsTraces response_tokens input.base input.header unrecorded opened all → IsTextFailure all why → FindsRefusal (FindsRun input) why
  run_long all failure.Memory adds f = tt
  run_long all (failure.Fault refusal.TooLong) adds f = λ document t. response_long input.base input.header unrecorded first opened opens all adds f document (run_response document t)
  run_long all (failure.Fault (refusal.Opening fault)) adds f = absurd f
