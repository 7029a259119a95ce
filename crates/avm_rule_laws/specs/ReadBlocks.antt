-- What blocks lead to that are read from bytes. The statement of the law.
use Rattle.std.specs.Prelude.{◌≡◌, ℕ, List, take, Ok}
use Rattle.avm_ledger.specs.Ledgers.{Ledger}
use Rattle.avm_ledger.specs.Encodings.{ledger_bytes}
use Rattle.avm_ledger.specs.LedgerReader.{ledger_at}
use Rattle.avm_ledger.specs.LedgerRules.{IsCountable}
use Rattle.avm_call.specs.Replay.{replayed}
use Rattle.avm_block.specs.AcceptedCalls.{is_accepted}
use Rattle.avm_block.specs.BlockReader.{block_at}
use Rattle.avm_block.specs.Blocks.{Block, calls_of}
use Rattle.avm_rule_laws.specs.Rules.{AreBytes, IsSound}

-- a ledger that keeps the rules, and that is read back from its bytes where its applications and local states can be counted
-- in 32 bits
pub record IsReadable (l : Ledger) : Type 0 where
  pub sound : IsSound l
  pub reads_back : IsCountable l → ledger_at (ledger_bytes l) ≡ Ok l

-- From a ledger that was read from bytes, any number of the calls of a block that was read from bytes, from the first, lead
-- to a ledger that is read back: what a replay leaves can be written, and read again as the same ledger.
abbrev pub ReadBlocksLeadToReadableLedgers : Type 0
ReadBlocksLeadToReadableLedgers =
    (before block : List ℕ) (l : Ledger) (b : Block) (n : ℕ) → AreBytes before → AreBytes block → ledger_at before ≡ Ok l → block_at is_accepted block ≡ Ok b
    → IsReadable (replayed l b.header (take n (calls_of b)))
