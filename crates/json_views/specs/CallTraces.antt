-- What is written of calls that are traced one after another, and where the text is too long.
use Rattle.std.specs.Prelude.{◌≡◌, ℕ, ◌<◌, ◌≤◌, List, ◌++◌, length, codes, Option, Result, Ok, Err}
use Rattle.json.specs.Json.{Json, array}
use Rattle.json.specs.Layout.{pretty}
use Rattle.json.specs.Token.{Token}
use Rattle.json.specs.Tree.{json_tokens, members_tokens}
use Rattle.teal_value.specs.declared.failure.Failure.{Failure}
use Rattle.teal_value.specs.declared.failure.Failure.TheVariants as failure
use Rattle.avm_ledger.specs.declared.header.Header.{Header}
use Rattle.avm_ledger.specs.Ledgers.{Ledger}
use Rattle.avm_items.specs.declared.call_data.CallData.{CallData}
use Rattle.avm_call.specs.declared.outcome.Outcome.{Outcome}
use Rattle.avm_block.specs.Blocks.{Block}
use Rattle.avm_stepper.specs.Opening.{IsDebugRefusal}
use Rattle.json_views.specs.Documents.{document_text, items_of, members_of}
use Rattle.json_views.specs.declared.refusal.TraceRefusal.{TraceRefusal}
use Rattle.json_views.specs.declared.refusal.TraceRefusal.TheVariants as refusal
use Rattle.json_views.specs.Traces.{AreCallTraces, HasTrace, IsCallTrace, IsEntryTrace, response_members}
use Rattle.json_views.specs.Weights.{IsTooLongBehind, most_text, tokens_weight}
use Rattle.json_views.specs.Writing.{Adds}

-- ---- one document

-- a document of this kind was written
abbrev pub AddsDocument : (Json → Type 0) → List Token → List Token → Type 0
AddsDocument Is old new = (document : Json) × Is document × Adds old new (json_tokens document)

-- why none is written
abbrev pub IsDocumentFailure : (Json → Type 0) → List Token → Failure TraceRefusal → Type 0
IsDocumentFailure Is old failure.Memory = Unit {0}
IsDocumentFailure Is old (failure.Fault refusal.TooLong) = IsTooLongBehind old Is
IsDocumentFailure Is old (failure.Fault (refusal.Opening fault)) = ⊥

-- why the trace of an entry's call is not written
abbrev pub IsEntryFailure : Ledger → Block → ℕ → List Token → Failure TraceRefusal → Type 0
IsEntryFailure base b number old failure.Memory = Unit {0}
IsEntryFailure base b number old (failure.Fault refusal.TooLong) = HasTrace base b number × IsTooLongBehind old (IsEntryTrace base b number)
IsEntryFailure base b number old (failure.Fault (refusal.Opening fault)) = IsDebugRefusal base b number (failure.Fault fault)

-- ---- one call

-- the trace of a call was written
abbrev pub AddsCallTrace : Ledger → Header → CallData × Option Outcome → List Token → List Token → Type 0
AddsCallTrace l header c old new = AddsDocument (IsCallTrace l c.0 header c.1) old new

-- why it is not written
abbrev pub IsCallTraceFailure : Ledger → Header → CallData × Option Outcome → List Token → Failure TraceRefusal → Type 0
IsCallTraceFailure l header c old why = IsDocumentFailure (IsCallTrace l c.0 header c.1) old why

-- ---- calls one after another

-- of their traces, these tokens were written
abbrev pub AddsTraces : (List Json → List Token) → Ledger → Header → List (CallData × Option Outcome) → List Token → List Token → Type 0
AddsTraces tokens l header calls old new = (traces : List Json) × AreCallTraces l header calls traces × Adds old new (tokens traces)

-- why they are not written
abbrev pub IsTracesFailure : (List Json → List Token) → Ledger → Header → List (CallData × Option Outcome) → List Token → Failure TraceRefusal → Type 0
IsTracesFailure tokens l header calls old failure.Memory = Unit {0}
IsTracesFailure tokens l header calls old (failure.Fault refusal.TooLong) = (traces : List Json) → AreCallTraces l header calls traces → most_text < tokens_weight (old ++ tokens traces)
IsTracesFailure tokens l header calls old (failure.Fault (refusal.Opening fault)) = ⊥

-- the array of traces
abbrev pub array_tokens : List Json → List Token
array_tokens traces = json_tokens (array (items_of traces))

-- the members of a response, and its closing bracket
abbrev pub response_tokens : List Json → List Token
response_tokens traces = members_tokens (members_of (response_members traces))

-- ---- the text

-- the text of tokens is no longer than a text may be
abbrev pub IsTextWithin : List Token → List ℕ → Type 0
IsTextWithin tokens bytes = (bytes ≡ pretty tokens ++ codes "\n") × (length bytes ≤ most_text)

-- why there is no text
abbrev pub IsTextFailure : List Token → Failure TraceRefusal → Type 0
IsTextFailure tokens failure.Memory = Unit {0}
IsTextFailure tokens (failure.Fault refusal.TooLong) = most_text < length (pretty tokens ++ codes "\n")
IsTextFailure tokens (failure.Fault (refusal.Opening fault)) = ⊥

-- the text of what is found
abbrev pub FindsText : (Result Json TraceRefusal → Type 0) → List ℕ → Type 0
FindsText Finds bytes = (document : Json) × Finds (Ok document) × (bytes ≡ document_text document)

-- a refusal is what is found
abbrev pub FindsRefusal : (Result Json TraceRefusal → Type 0) → Failure TraceRefusal → Type 0
FindsRefusal Finds failure.Memory = Unit {0}
FindsRefusal Finds (failure.Fault why) = Finds (Err why)
