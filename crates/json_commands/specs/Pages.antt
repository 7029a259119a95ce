-- A block on a page: its document, the text around it, and what `page` answers.
use Rattle.std.specs.Prelude.{◌≡◌, ◌≢◌, ◌⊎◌, ℕ, ◌<◌, ◌≤◌, List, [], ◌∷◌, ◌++◌, length, Option, Some, None, Result, Ok, Err, codes}
use Rattle.base64.specs.Engines.{standard}
use Rattle.base64.specs.GeneralPurpose.{IsBytes, encode_of}
use Rattle.json.specs.Json.{Json, null}
use Rattle.teal_value.specs.declared.failure.Failure.TheVariants as failure
use Rattle.avm_ledger.specs.Ledgers.{Ledger}
use Rattle.avm_ledger.specs.Encodings.{ledger_digest}
use Rattle.avm_call.specs.declared.outcome.Outcome.{Outcome}
use Rattle.avm_call.specs.Replay.{outcomes, replayed}
use Rattle.avm_block.specs.Blocks.{Block, calls_of}
use Rattle.avm_replay.specs.declared.verdict.Verdict.{Verdict}
use Rattle.avm_replay.specs.Verdicts.{Judges}
use Rattle.avm_block.specs.declared.past_faults.OpenFault.TheVariants as opening
use Rattle.avm_stepper.specs.Opening.{IsDebugRefusal}
use Rattle.avm_input.specs.declared.refusals.Refusal.{Refusal}
use Rattle.avm_input.specs.declared.refusals.Refusal.TheVariants as input_refusal
use Rattle.avm_input.specs.BlockLines.{ledger_and_block}
use Rattle.avm_input.specs.DigitLines.{digit_lines}
use Rattle.avm_input.specs.Outcomes.{outcome_text}
use Rattle.avm_input.specs.Refusals.{refusal_reply}
use Rattle.avm_input.specs.Replies.{Reply, refused, succeeded}
use Rattle.avm_commands.specs.BlockCommands.{verdict_text}
use Rattle.json_views.specs.Documents.{Member, array_of, document_text, object_of, text, uint}
use Rattle.json_views.specs.declared.refusal.TraceRefusal.{TraceRefusal}
use Rattle.json_views.specs.declared.refusal.TraceRefusal.TheVariants as refusal
use Rattle.json_views.specs.ShownBlocks.{shown_block}
use Rattle.json_views.specs.ShownLedgers.{shown_ledger}
use Rattle.json_views.specs.Traces.{HasTrace, IsBlockTrace, IsEntryTrace}
use Rattle.json_views.specs.Weights.{most_text}
use Rattle.json_commands.specs.declared.texts.TheConstants.{BEGINNING, END}
use Rattle.json_commands.specs.declared.traces.Traces.{Traces}
use Rattle.json_commands.specs.declared.traces.Traces.TheVariants.{All, Entry, LeftOut}

-- ---- the document

abbrev pub shown_outcome : Outcome → Json
shown_outcome o = text (outcome_text o)

-- All members but the traces: the ledger to which the calls lead, the number of the entry that is asked for, or 0, how the calls end, what
-- `replay` says, and what `show` writes of the ledger before and the block.
abbrev pub front_members : Ledger → Block → ℕ → Verdict → List Member
front_members base b number v =
    (codes "after", shown_ledger (replayed base b.header (calls_of b)))
    ∷ (codes "entry", uint number)
    ∷ (codes "outcomes", array_of shown_outcome (outcomes base b.header (calls_of b)))
    ∷ (codes "replay", text (verdict_text v))
    ∷ (codes "shown", shown_block base b)
    ∷ []

abbrev pub page_document : Ledger → Block → ℕ → Verdict → Json → Json
page_document base b number v trace = object_of (front_members base b number v ++ (codes "trace", trace) ∷ [])

-- ---- the page

-- bytes in base64 between two texts
abbrev pub framed : List ℕ → List ℕ → List ℕ → List ℕ
framed before bytes behind = before ++ (encode_of standard bytes ++ behind)

-- the text of a document in base64, between the fixed texts
abbrev pub page_text : Json → List ℕ
page_text document = framed BEGINNING.now (document_text document) END.now

abbrev pub number_of : Traces → ℕ
number_of All = 0
number_of LeftOut = 0
number_of (Entry number) = number

-- what stands on a page as traces: what `trace` answers, or nothing
abbrev pub IsTraceOf : Traces → Ledger → Block → Json → Type 0
IsTraceOf All base b trace = IsBlockTrace base b trace
IsTraceOf LeftOut base b trace = trace ≡ null
IsTraceOf (Entry number) base b trace = IsEntryTrace base b number trace

-- the page of a block over the ledger before it, with these traces
pub record IsPage (traces : Traces) (base : Ledger) (b : Block) (page : List ℕ) : Type 0 where
  pub verdict : Verdict
  pub judges : Judges base b verdict
  pub trace : Json
  pub traced : IsTraceOf traces base b trace
  pub bytes : IsBytes (document_text (page_document base b (number_of traces) verdict trace))
  pub is : page ≡ page_text (page_document base b (number_of traces) verdict trace)

-- each page with these traces is too long
abbrev pub IsTooLong : Traces → Ledger → Block → Type 0
IsTooLong traces base b = (page : List ℕ) → IsPage traces base b page → most_text < length page

-- the block stands over the ledger, where that is not asked with the entry
abbrev pub StandsOver : Traces → Ledger → Block → Type 0
StandsOver (Entry number) base b = Unit {0}
StandsOver _ base b = b.base ≡ ledger_digest base

-- ---- what is found

-- the page with all traces, or, where that is too long, without
abbrev pub FindsBlockPage : Ledger × Block → Result (List ℕ) TraceRefusal → Type 0
FindsBlockPage input (Ok page) =
    (input.1.base ≡ ledger_digest input.0) × (length page ≤ most_text)
    × (IsPage All input.0 input.1 page ⊎ (IsTooLong All input.0 input.1 × IsPage LeftOut input.0 input.1 page))
FindsBlockPage input (Err (refusal.Opening opening.WrongBase)) = input.1.base ≢ ledger_digest input.0
FindsBlockPage input (Err (refusal.Opening _)) = ⊥
FindsBlockPage input (Err refusal.TooLong) = (input.1.base ≡ ledger_digest input.0) × IsTooLong All input.0 input.1 × IsTooLong LeftOut input.0 input.1

-- the page with the trace of an entry's call
abbrev pub FindsEntryPage : Ledger × Block → ℕ → Result (List ℕ) TraceRefusal → Type 0
FindsEntryPage input number (Ok page) = IsPage (Entry number) input.0 input.1 page × (length page ≤ most_text)
FindsEntryPage input number (Err (refusal.Opening fault)) = IsDebugRefusal input.0 input.1 number (failure.Fault fault)
FindsEntryPage input number (Err refusal.TooLong) = HasTrace input.0 input.1 number × IsTooLong (Entry number) input.0 input.1

-- of an entry where one is named
abbrev pub FindsPage : Option ℕ → Ledger × Block → Result (List ℕ) TraceRefusal → Type 0
FindsPage None input found = FindsBlockPage input found
FindsPage (Some number) input found = FindsEntryPage input number found

-- ---- the answer

abbrev pub page_reply : Result (List ℕ) TraceRefusal → Reply
page_reply (Ok page) = record { text = page; status = succeeded }
page_reply (Err (refusal.Opening fault)) = refusal_reply (input_refusal.Opening fault)
page_reply (Err refusal.TooLong) = record { text = codes "refused page TooLong\n"; status = refused }

-- what is found, or the refusal of the input
abbrev pub IsPageOn : Option ℕ → Result (Ledger × Block) Refusal → Reply → Type 0
IsPageOn entry (Ok input) reply = (found : Result (List ℕ) TraceRefusal) × FindsPage entry input found × (reply ≡ page_reply found)
IsPageOn entry (Err why) reply = reply ≡ refusal_reply why

-- what `page`, or `page --entry N`, answers to an input
abbrev pub IsPageReply : Option ℕ → List ℕ → Reply → Type 0
IsPageReply entry input reply = IsPageOn entry (ledger_and_block (digit_lines input)) reply
