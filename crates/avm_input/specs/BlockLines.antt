-- A ledger and a block on lines of digits.
use Rattle.std.specs.Prelude.{ℕ, List, [], ◌∷◌, Result, Ok, Err}
use Rattle.teal_value.specs.Answer.{◌>>=◌}
use Rattle.avm_ledger.specs.Ledgers.{Ledger}
use Rattle.avm_ledger.specs.declared.ledger_fault.LedgerFault.{LedgerFault}
use Rattle.avm_ledger.specs.LedgerReader.{ledger_at as ledger_of_bytes}
use Rattle.avm_block.specs.declared.block_fault.BlockFault.{BlockFault}
use Rattle.avm_block.specs.Blocks.{Block}
use Rattle.avm_block.specs.AcceptedCalls.{is_accepted}
use Rattle.avm_block.specs.BlockReader.{block_at}
use Rattle.avm_input.specs.declared.refusals.Refusal.{Refusal}
use Rattle.avm_input.specs.declared.refusals.Refusal.TheVariants as refusal
use Rattle.avm_input.specs.DigitLines.{DigitLine, line_bytes, with_no_line}

-- the bytes of the first line, which there has to be, and the lines behind it
abbrev pub needed_bytes : List DigitLine → Result (List ℕ × List DigitLine) Refusal
needed_bytes [] = Err refusal.Lines
needed_bytes (line ∷ more) = line_bytes line >>= λ bytes. Ok (bytes, more)

abbrev pub on_ledger : Result Ledger LedgerFault → Result Ledger Refusal
on_ledger (Ok l) = Ok l
on_ledger (Err fault) = Err (refusal.Ledger fault)

abbrev pub on_block : Result Block BlockFault → Result Block Refusal
on_block (Ok b) = Ok b
on_block (Err fault) = Err (refusal.Block fault)

abbrev pub first_ledger : List DigitLine → Result (Ledger × List DigitLine) Refusal
first_ledger lines = needed_bytes lines >>= λ first. on_ledger (ledger_of_bytes first.0) >>= λ l. Ok (l, first.1)

abbrev pub first_block : List DigitLine → Result (Block × List DigitLine) Refusal
first_block lines = needed_bytes lines >>= λ first. on_block (block_at is_accepted first.0) >>= λ b. Ok (b, first.1)

-- the block of a line's bytes, where no line is behind it
abbrev pub last_block : List ℕ → List DigitLine → Result Block Refusal
last_block bytes behind = on_block (block_at is_accepted bytes) >>= λ b. with_no_line behind b

-- the ledger and the block of the only two lines
abbrev pub ledger_and_block : List DigitLine → Result (Ledger × Block) Refusal
ledger_and_block lines = first_ledger lines >>= λ l. first_block l.1 >>= λ b. with_no_line b.1 (l.0, b.0)
