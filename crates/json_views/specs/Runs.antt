-- What `run` answers to a document: what its calls do, one after another, over its ledger.
use Rattle.std.specs.Prelude.{◌≡◌, ◌==◌, ℕ, ◌<◌, ◌≤◌, Bool, true, false, List, ◌∷◌, length, map, Option, None, Result, Ok, Err, codes}
use Rattle.json.specs.Json.{Json}
use Rattle.avm_items.specs.declared.call_data.CallData.{CallData}
use Rattle.avm_call.specs.declared.outcome.Outcome.{Outcome}
use Rattle.avm_call.specs.Replay.{replayed}
use Rattle.avm_input.specs.declared.refusals.Refusal.{Refusal}
use Rattle.avm_input.specs.DigitLines.{digit_lines}
use Rattle.avm_input.specs.ProposeInputs.{ProposeInput, propose_input}
use Rattle.avm_input.specs.Refusals.{refusal_reply}
use Rattle.avm_input.specs.Replies.{Reply, succeeded}
use Rattle.json_documents.specs.Replies.{lines_reply}
use Rattle.json_views.specs.Documents.{document_text, object_of}
use Rattle.json_views.specs.declared.refusal.TraceRefusal.{TraceRefusal}
use Rattle.json_views.specs.declared.refusal.TraceRefusal.TheVariants as refusal
use Rattle.json_views.specs.ShownLedgers.{shown_ledger}
use Rattle.json_views.specs.TraceReplies.{IsFoundReply}
use Rattle.json_views.specs.Traces.{AreCallTraces, response_members}
use Rattle.json_views.specs.Weights.{most_text}

-- a call that has no entry
abbrev pub unrecorded_call : CallData → CallData × Option Outcome
unrecorded_call c = (c, None)

-- The traces of the calls, each over the ledger that the one before left, and the ledger after the last.
pub record IsRun (input : ProposeInput) (document : Json) : Type 0 where
  pub traces : List Json
  pub are : AreCallTraces input.base input.header (map unrecorded_call input.calls) traces
  pub is : document ≡ object_of ((codes "after", shown_ledger (replayed input.base input.header input.calls)) ∷ response_members traces)

abbrev pub FindsRun : ProposeInput → Result Json TraceRefusal → Type 0
FindsRun input (Ok document) = IsRun input document × (length (document_text document) ≤ most_text)
FindsRun input (Err (refusal.Opening fault)) = ⊥
FindsRun input (Err refusal.TooLong) = (document : Json) → IsRun input document → most_text < length (document_text document)

abbrev pub run_too_long : List ℕ
run_too_long = codes "refused run TooLong\n"

-- what is found of the lines that `propose` reads, or why they are refused
abbrev pub IsRunOn : Result ProposeInput Refusal → Reply → Type 0
IsRunOn (Ok input) reply = IsFoundReply run_too_long (FindsRun input) reply
IsRunOn (Err why) reply = reply ≡ refusal_reply why

-- of the lines of the document, or the refusal of it
abbrev pub IsRunBehind : Bool → Reply → Reply → Type 0
IsRunBehind true lines reply = IsRunOn (propose_input (digit_lines lines.text)) reply
IsRunBehind false lines reply = reply ≡ lines

-- what `run` answers to an input that is not too long
abbrev pub IsRunReply : List ℕ → Reply → Type 0
IsRunReply input reply = let lines = lines_reply input in IsRunBehind (lines.status == succeeded) lines reply
