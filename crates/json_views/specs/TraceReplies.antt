-- What `trace` answers to its input: a line of digits for the ledger before a block, and one for the block.
use Rattle.std.specs.Prelude.{◌≡◌, ℕ, List, Option, Result, Ok, Err, codes}
use Rattle.json.specs.Json.{Json}
use Rattle.teal_value.specs.declared.failure.Failure.{Failure}
use Rattle.teal_value.specs.declared.failure.Failure.TheVariants as failure
use Rattle.avm_ledger.specs.Ledgers.{Ledger}
use Rattle.avm_block.specs.Blocks.{Block}
use Rattle.avm_input.specs.declared.refusals.Refusal.{Refusal}
use Rattle.avm_input.specs.declared.refusals.Refusal.TheVariants as input_refusal
use Rattle.avm_input.specs.BlockLines.{ledger_and_block}
use Rattle.avm_input.specs.DigitLines.{digit_lines}
use Rattle.avm_input.specs.Refusals.{refusal_reply}
use Rattle.avm_input.specs.Replies.{Reply, refused, succeeded}
use Rattle.json_views.specs.Documents.{document_text}
use Rattle.json_views.specs.declared.refusal.TraceRefusal.{TraceRefusal}
use Rattle.json_views.specs.declared.refusal.TraceRefusal.TheVariants as refusal
use Rattle.json_views.specs.Traces.{Finds}

-- the answer, where a text that is too long is refused in these words
abbrev pub found_reply : List ℕ → Result Json TraceRefusal → Reply
found_reply too_long (Ok document) = record { text = document_text document; status = succeeded }
found_reply too_long (Err (refusal.Opening fault)) = refusal_reply (input_refusal.Opening fault)
found_reply too_long (Err refusal.TooLong) = record { text = too_long; status = refused }

-- a refusal, as an answer
abbrev pub IsRefusalReply : List ℕ → Failure TraceRefusal → Reply → Type 0
IsRefusalReply too_long failure.Memory reply = ⊥
IsRefusalReply too_long (failure.Fault why) reply = reply ≡ found_reply too_long (Err why)

-- what is found, as an answer
abbrev pub IsFoundReply : List ℕ → (Result Json TraceRefusal → Type 0) → Reply → Type 0
IsFoundReply too_long Finds reply = (found : Result Json TraceRefusal) × Finds found × (reply ≡ found_reply too_long found)

abbrev pub trace_too_long : List ℕ
trace_too_long = codes "refused trace TooLong\n"

-- what is found, or the refusal of the input
abbrev pub IsTraceOn : Option ℕ → Result (Ledger × Block) Refusal → Reply → Type 0
IsTraceOn entry (Ok input) reply = IsFoundReply trace_too_long (Finds entry input) reply
IsTraceOn entry (Err why) reply = reply ≡ refusal_reply why

-- what `trace`, or `trace --entry N`, answers to an input
abbrev pub IsTraceReply : Option ℕ → List ℕ → Reply → Type 0
IsTraceReply entry input reply = IsTraceOn entry (ledger_and_block (digit_lines input)) reply
