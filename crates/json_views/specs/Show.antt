-- What `show` answers to its input: a line of digits for a ledger, and maybe one for a block.
use Rattle.std.specs.Prelude.{ℕ, List, Option, Some, None, Result, Ok, Err}
use Rattle.teal_value.specs.Answer.{◌>>=◌}
use Rattle.json.specs.Json.{Json}
use Rattle.avm_ledger.specs.Ledgers.{Ledger}
use Rattle.avm_block.specs.Blocks.{Block}
use Rattle.avm_block.specs.AcceptedCalls.{is_accepted}
use Rattle.avm_block.specs.BlockReader.{block_at}
use Rattle.avm_input.specs.declared.refusals.Refusal.{Refusal}
use Rattle.avm_input.specs.BlockLines.{first_ledger, on_block}
use Rattle.avm_input.specs.DigitLines.{DigitLine, digit_lines, first_bytes, with_no_line}
use Rattle.avm_input.specs.Refusals.{refusal_reply}
use Rattle.avm_input.specs.Replies.{Reply, succeeded}
use Rattle.json_views.specs.Documents.{document_text}
use Rattle.json_views.specs.ShownLedgers.{shown_ledger}
use Rattle.json_views.specs.ShownBlocks.{shown_block}

-- the block of a second line, if there is one, behind which no line is left
abbrev pub block_behind : Option (List ℕ) → List DigitLine → Result (Option Block) Refusal
block_behind None rest = Ok None
block_behind (Some bytes) rest = on_block (block_at is_accepted bytes) >>= λ b. with_no_line rest (Some b)

-- the ledger of the first line, and the block of the second, if there is one; there is no third
abbrev pub ledger_and_maybe_block : List DigitLine → Result (Ledger × Option Block) Refusal
ledger_and_maybe_block lines = first_ledger lines >>= λ l. first_bytes l.1 >>= λ second. block_behind second.0 second.1 >>= λ b. Ok (l.0, b)

abbrev pub shown_both : Ledger → Option Block → Json
shown_both l None = shown_ledger l
shown_both l (Some b) = shown_block l b

-- the document, or the refusal of the input
abbrev pub shown_reply : Result (Ledger × Option Block) Refusal → Reply
shown_reply (Ok both) = record { text = document_text (shown_both both.0 both.1); status = succeeded }
shown_reply (Err why) = refusal_reply why

abbrev pub show_reply : List ℕ → Reply
show_reply input = shown_reply (ledger_and_maybe_block (digit_lines input))
