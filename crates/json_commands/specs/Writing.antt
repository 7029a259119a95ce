-- What is written of a page, and why it is not.
use Rattle.std.specs.Prelude.{◌≡◌, ℕ, ◌<◌, List, [], ◌∷◌, ◌++◌, length, Result, Err, codes}
use Rattle.base64.specs.GeneralPurpose.{IsBytes}
use Rattle.json.specs.Layout.{pretty}
use Rattle.json.specs.Token.{Token, begin_object, key}
use Rattle.teal_value.specs.declared.failure.Failure.{Failure}
use Rattle.teal_value.specs.declared.failure.Failure.TheVariants as failure
use Rattle.avm_ledger.specs.Ledgers.{Ledger}
use Rattle.avm_block.specs.Blocks.{Block}
use Rattle.avm_replay.specs.declared.verdict.Verdict.{Verdict}
use Rattle.avm_replay.specs.Verdicts.{Judges}
use Rattle.avm_block.specs.declared.past_faults.OpenFault.{OpenFault}
use Rattle.avm_stepper.specs.Opening.{IsDebugRefusal}
use Rattle.avm_commands.specs.BlockCommands.{verdict_text}
use Rattle.json_views.specs.Documents.{member_tokens, text}
use Rattle.json_views.specs.declared.refusal.TraceRefusal.{TraceRefusal}
use Rattle.json_views.specs.declared.refusal.TraceRefusal.TheVariants as refusal
use Rattle.json_views.specs.Traces.{HasTrace}
use Rattle.json_views.specs.Weights.{IsTooLongBehind, most_text}
use Rattle.json_views.specs.Writing.{Adds}
use Rattle.json_commands.specs.declared.texts.TheConstants.{BEGINNING, END}
use Rattle.json_commands.specs.declared.traces.Traces.{Traces}
use Rattle.json_commands.specs.declared.traces.Traces.TheVariants.{Entry}
use Rattle.json_commands.specs.Pages.{IsTooLong, IsTraceOf, framed, front_members}

-- ---- the front

-- the tokens of a page's document up to the traces
abbrev pub front_tokens : Ledger → Block → ℕ → Verdict → List Token
front_tokens base b number v = begin_object ∷ (member_tokens (front_members base b number v) ++ key (codes "trace") ∷ [])

-- they were written, with the verdict
abbrev pub AddsFront : Ledger → Block → ℕ → List Token → List Token → Type 0
AddsFront base b number old new = (v : Verdict) × Judges base b v × Adds old new (front_tokens base b number v)

-- the verdict was
abbrev pub AddsVerdict : Ledger → Block → List Token → List Token → Type 0
AddsVerdict base b old new = (v : Verdict) × Judges base b v × Adds old new (member_tokens ((codes "replay", text (verdict_text v)) ∷ []))

-- ---- the traces

-- there are such traces
abbrev pub HasTraces : Traces → Ledger → Block → Type 0
HasTraces (Entry number) base b = HasTrace base b number
HasTraces _ base b = Unit {0}

-- why an entry's call has none
abbrev pub IsOpeningRefusal : Traces → Ledger → Block → OpenFault → Type 0
IsOpeningRefusal (Entry number) base b fault = IsDebugRefusal base b number (failure.Fault fault)
IsOpeningRefusal _ base b fault = ⊥

-- why they are not written
abbrev pub IsTraceFailure : Traces → Ledger → Block → List Token → Failure TraceRefusal → Type 0
IsTraceFailure traces base b old failure.Memory = Unit {0}
IsTraceFailure traces base b old (failure.Fault refusal.TooLong) = HasTraces traces base b × IsTooLongBehind old (IsTraceOf traces base b)
IsTraceFailure traces base b old (failure.Fault (refusal.Opening fault)) = IsOpeningRefusal traces base b fault

-- ---- the end

-- the text of a document, of which these are the tokens, in base64 between the fixed texts
abbrev pub framed_tokens : List Token → List ℕ
framed_tokens tokens = framed BEGINNING.now (pretty tokens ++ codes "\n") END.now

abbrev pub IsFinished : List Token → List ℕ → Type 0
IsFinished tokens page = (page ≡ framed_tokens tokens) × IsBytes (pretty tokens ++ codes "\n")

-- why there is none
abbrev pub IsEndFailure : List Token → Failure TraceRefusal → Type 0
IsEndFailure tokens failure.Memory = Unit {0}
IsEndFailure tokens (failure.Fault refusal.TooLong) = most_text < length (framed_tokens tokens)
IsEndFailure tokens (failure.Fault (refusal.Opening fault)) = ⊥

-- ---- the page

-- why there is no page with these traces
abbrev pub IsPageFailure : Traces → Ledger → Block → Failure TraceRefusal → Type 0
IsPageFailure traces base b failure.Memory = Unit {0}
IsPageFailure traces base b (failure.Fault refusal.TooLong) = HasTraces traces base b × IsTooLong traces base b
IsPageFailure traces base b (failure.Fault (refusal.Opening fault)) = IsOpeningRefusal traces base b fault

-- a refusal is what is found
abbrev pub IsPageRefusal : (Result (List ℕ) TraceRefusal → Type 0) → Failure TraceRefusal → Type 0
IsPageRefusal Finds failure.Memory = Unit {0}
IsPageRefusal Finds (failure.Fault why) = Finds (Err why)
