-- The ledger after a part of a block.
use Rattle.std.specs.Prelude.{◌≢◌, ℕ, nat_le, List, filter}
use Rattle.teal_value.specs.declared.failure.Failure.{Failure}
use Rattle.teal_value.specs.declared.failure.Failure.TheVariants as failure
use Rattle.avm_ledger.specs.Ledgers.{Ledger}
use Rattle.avm_ledger.specs.Encodings.{ledger_digest}
use Rattle.avm_call.specs.Replay.{replayed}
use Rattle.avm_block.specs.declared.entry.Entry.{Entry}
use Rattle.avm_block.specs.Blocks.{Block, calls_in}
use Rattle.avm_block.specs.declared.past_faults.StateFault.{StateFault}
use Rattle.avm_block.specs.declared.past_faults.StateFault.TheVariants as fault

-- the entries with timestamps up to this one
abbrev pub entries_until : ℕ → List Entry → List Entry
entries_until timestamp = filter (λ (e : Entry). nat_le e.timestamp timestamp)

-- the ledger after the calls with timestamps up to this one
abbrev pub ledger_until : Ledger → Block → ℕ → Ledger
ledger_until l b timestamp = replayed l b.header (calls_in (entries_until timestamp b.entries))

-- It is refused for another ledger before the block, or because memory ran out.
abbrev pub IsRefused : Ledger → Block → Failure StateFault → Type 0
IsRefused l b (failure.Fault fault.WrongBase) = b.base ≢ ledger_digest l
IsRefused l b failure.Memory = Unit {0}
