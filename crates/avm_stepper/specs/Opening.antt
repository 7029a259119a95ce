-- Which call of a block is opened, over which ledger, and why none is.
use Rattle.std.specs.Prelude.{◌≡◌, ◌≢◌, ℕ, ◌-◌, ◌==◌, if◌then◌else◌, List, slice_get, IsSome, Option, Some, None, Result, Ok, Err}
use Rattle.teal_value.specs.declared.failure.Failure.{Failure}
use Rattle.teal_value.specs.declared.failure.Failure.TheVariants as failure
use Rattle.avm_ledger.specs.declared.application.Application.{Application}
use Rattle.avm_ledger.specs.Ledgers.{Ledger}
use Rattle.avm_ledger.specs.Encodings.{ledger_digest}
use Rattle.avm_items.specs.declared.call_data.CallData.{CallData}
use Rattle.avm_items.specs.Asks.{result_over}
use Rattle.avm_items.specs.LedgerItems.{at}
use Rattle.avm_call.specs.declared.outcome.Why.{Why}
use Rattle.avm_call.specs.Calls.{Target, admitted}
use Rattle.avm_block.specs.declared.entry.Entry.{Entry}
use Rattle.avm_block.specs.Blocks.{Block}
use Rattle.avm_replay.specs.Past.{ledger_until}
use Rattle.avm_block.specs.declared.past_faults.OpenFault.{OpenFault}
use Rattle.avm_block.specs.declared.past_faults.OpenFault.TheVariants as fault
use Rattle.avm_stepper.specs.Debugging.{Debugged}

-- the entry of a number, counted from 1
abbrev pub entry_numbered : List Entry → ℕ → Option Entry
entry_numbered entries number = if number == 0 then None else slice_get entries (number - 1)

-- The ledger that an entry's call met: the entries before it have lower timestamps.
abbrev pub ledger_before : Ledger → Block → Entry → Ledger
ledger_before base b e = ledger_until base b (e.timestamp - 1)

-- the application whose program runs
abbrev pub row_of_target : Result Target Why → Option Application
row_of_target (Ok t) = t.row
row_of_target (Err w) = None

abbrev pub program_row : Ledger → CallData → Option Application
program_row l call = row_of_target (result_over (at l) (admitted call))

abbrev pub HasProgram : Ledger → CallData → Type 0
HasProgram l call = IsSome (program_row l call)

-- The call is refused, or clears the local state of an application that is gone.
abbrev pub HasNoProgram : Ledger → CallData → Type 0
HasNoProgram l call = program_row l call ≡ None

-- It stands before the first instruction of the call's program.
pub record IsOpened (base : Ledger) (b : Block) (number : ℕ) (d : Option Debugged) : Type 0 where
  pub entry : Entry
  pub there : entry_numbered b.entries number ≡ Some entry
  pub same_base : b.base ≡ ledger_digest base
  pub program : HasProgram (ledger_before base b entry) entry.call
  pub now : d ≡ Some (record { ledger = ledger_before base b entry; call = entry.call; header = b.header; steps = 0; fault = None })

pub record IsWithoutProgram (base : Ledger) (b : Block) (number : ℕ) : Type 0 where
  pub entry : Entry
  pub there : entry_numbered b.entries number ≡ Some entry
  pub same_base : b.base ≡ ledger_digest base
  pub none : HasNoProgram (ledger_before base b entry) entry.call

-- Why nothing is opened. Memory is asked for once the entry is found.
abbrev pub IsDebugRefusal : Ledger → Block → ℕ → Failure OpenFault → Type 0
IsDebugRefusal base b number (failure.Fault fault.NoEntry) = entry_numbered b.entries number ≡ None
IsDebugRefusal base b number (failure.Fault fault.WrongBase) = IsSome (entry_numbered b.entries number) × (b.base ≢ ledger_digest base)
IsDebugRefusal base b number (failure.Fault fault.NoProgram) = IsWithoutProgram base b number
IsDebugRefusal base b number (failure.Fault fault.Pruned) = ⊥
IsDebugRefusal base b number failure.Memory = IsSome (entry_numbered b.entries number)

-- ---- the parts of it

abbrev pub IsBaseRefusal : Ledger → Block → Failure OpenFault → Type 0
IsBaseRefusal base b (failure.Fault fault.WrongBase) = b.base ≢ ledger_digest base
IsBaseRefusal base b (failure.Fault _) = ⊥
IsBaseRefusal base b failure.Memory = Unit {0}

abbrev pub IsStartRefusal : Ledger → CallData → Failure OpenFault → Type 0
IsStartRefusal l call (failure.Fault fault.NoProgram) = HasNoProgram l call
IsStartRefusal l call (failure.Fault _) = ⊥
IsStartRefusal l call failure.Memory = Unit {0}
