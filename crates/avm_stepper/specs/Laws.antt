-- The ledger that an entry's call met. The statement of the law.
use Rattle.std.specs.Prelude.{◌≡◌, ℕ, ◌-◌, Some, take}
use Rattle.avm_ledger.specs.Ledgers.{Ledger}
use Rattle.avm_call.specs.Replay.{replayed}
use Rattle.avm_block.specs.declared.entry.Entry.{Entry}
use Rattle.avm_block.specs.Blocks.{Block, RisesAbove, calls_in}
use Rattle.avm_stepper.specs.Opening.{entry_numbered, ledger_before}

-- It is the ledger after the calls of the entries before that one, made one after another.
abbrev pub LedgersBeforeAreReplays : Type 0
LedgersBeforeAreReplays = (base : Ledger) (b : Block) (number : ℕ) (e : Entry) → RisesAbove 0 b.entries → entry_numbered b.entries number ≡ Some e
    → ledger_before base b e ≡ replayed base b.header (calls_in (take (number - 1) b.entries))
