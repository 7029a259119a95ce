-- The ledger and the block that bytes are, and the ledger at a timestamp.
use Rattle.std.specs.Prelude.{ℕ, List, Result, Ok, Err}
use Rattle.teal_value.specs.Answer.{◌>>=◌}
use Rattle.avm_ledger.specs.Ledgers.{Ledger}
use Rattle.avm_ledger.specs.LedgerReader.{ledger_at}
use Rattle.avm_ledger.specs.Encodings.{ledger_bytes}
use Rattle.avm_block.specs.AcceptedCalls.{is_accepted}
use Rattle.avm_block.specs.BlockReader.{block_at}
use Rattle.avm_block.specs.Blocks.{Block}
use Rattle.avm_commands.specs.BlockCommands.{past_of}
use Rattle.avm_bytes.specs.declared.statuses.Status.{Status}
use Rattle.avm_bytes.specs.declared.statuses.Status.TheVariants as status
use Rattle.avm_bytes.specs.Answers.{Answer, done, refusal}

-- the same, with this status in place of a fault
abbrev pub or_status : {A F : Type 0} → Status → Result A F → Result A Status
or_status why (Ok x) = Ok x
or_status why (Err fault) = Err why

abbrev pub ledger_of : List ℕ → Result Ledger Status
ledger_of bytes = or_status status.NoLedger (ledger_at bytes)

abbrev pub block_of : List ℕ → Result Block Status
block_of bytes = or_status status.NoBlock (block_at is_accepted bytes)

-- the ledger is read first
abbrev pub ledger_and_block : List ℕ → List ℕ → Result (Ledger × Block) Status
ledger_and_block ledger block = ledger_of ledger >>= λ l. block_of block >>= λ b. Ok (l, b)

-- the ledger at a timestamp, unless the block stands over another
abbrev pub ledger_until : ℕ → Ledger × Block → Result Ledger Status
ledger_until timestamp input = or_status status.WrongBase (past_of timestamp input)

abbrev pub past_ledger : ℕ → Result (Ledger × Block) Status → Result Ledger Status
past_ledger timestamp input = input >>= ledger_until timestamp

-- the bytes of a ledger
abbrev pub state_answer : Result Ledger Status → Answer
state_answer (Ok l) = done (ledger_bytes l)
state_answer (Err why) = refusal why

-- the bytes of the ledger at a timestamp
abbrev pub state_answer_at : ℕ → Result (Ledger × Block) Status → Answer
state_answer_at timestamp input = state_answer (past_ledger timestamp input)
