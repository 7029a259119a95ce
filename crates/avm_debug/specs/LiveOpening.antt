-- Which committed call of a store is opened, over which ledger, and why none is.
use Rattle.std.specs.Prelude.{◌≡◌, ℕ, suc, ◌-◌, ◌<◌, ◌≤◌, ◌==◌, if◌then◌else◌, List, slice_get, IsSome, Option, Some, None, option_map}
use Rattle.teal_value.specs.declared.failure.Failure.{Failure}
use Rattle.teal_value.specs.declared.failure.Failure.TheVariants as failure
use Rattle.avm_ledger.specs.Ledgers.{Ledger}
use Rattle.avm_items.specs.declared.call_data.CallData.{CallData}
use Rattle.mv_history.specs.History.{entries_below}
use Rattle.mv_parts.specs.CallHistory.{CallEntry}
use Rattle.mv_parts.specs.CallNumbers.{call_of}
use Rattle.mv_parts.specs.SerialCalls.{ledger_of}
use Rattle.mv_core.specs.SeenStores.{Store}
use Rattle.avm_block.specs.declared.past_faults.OpenFault.{OpenFault}
use Rattle.avm_block.specs.declared.past_faults.OpenFault.TheVariants as fault
use Rattle.avm_stepper.specs.Debugging.{Debugged}
use Rattle.avm_stepper.specs.Opening.{HasNoProgram, HasProgram}

-- the ledger after the committed calls with timestamps up to this one
abbrev pub ledger_of_store : Store → ℕ → Ledger
ledger_of_store s timestamp = ledger_of s.base s.header s.calls (entries_below (suc timestamp) s.world.entries)

-- the committed entry of a number, counted from 1
abbrev pub live_entry : List CallEntry → ℕ → Option CallEntry
live_entry entries number = if number == 0 then None else slice_get entries (number - 1)

abbrev pub call_of_entry : List CallData → Option CallEntry → Option (ℕ × CallData)
call_of_entry calls None = None
call_of_entry calls (Some e) = option_map (λ call. (e.timestamp, call)) (call_of calls e.number)

-- its timestamp and its call
abbrev pub met_live : Store → ℕ → Option (ℕ × CallData)
met_live s number = call_of_entry s.calls (live_entry s.world.entries number)

-- It stands before the first instruction of the call's program, over the ledger after the committed calls before it.
pub record IsOpenedLive (s : Store) (number : ℕ) (d : Option Debugged) : Type 0 where
  pub timestamp : ℕ
  pub call : CallData
  pub there : met_live s number ≡ Some (timestamp, call)
  pub kept : s.world.low < timestamp
  pub program : HasProgram (ledger_of_store s (timestamp - 1)) call
  pub now : d ≡ Some (record { ledger = ledger_of_store s (timestamp - 1); call = call; header = s.header; steps = 0; fault = None })

-- the call is at or below the low mark: the ledger before it is gone
pub record IsPrunedCall (s : Store) (number : ℕ) : Type 0 where
  pub timestamp : ℕ
  pub call : CallData
  pub there : met_live s number ≡ Some (timestamp, call)
  pub pruned : timestamp ≤ s.world.low

pub record IsLiveWithoutProgram (s : Store) (number : ℕ) : Type 0 where
  pub timestamp : ℕ
  pub call : CallData
  pub there : met_live s number ≡ Some (timestamp, call)
  pub kept : s.world.low < timestamp
  pub none : HasNoProgram (ledger_of_store s (timestamp - 1)) call

-- Why nothing is opened. Memory is asked for once the call is found.
abbrev pub IsLiveRefusal : Store → ℕ → Failure OpenFault → Type 0
IsLiveRefusal s number (failure.Fault fault.NoEntry) = met_live s number ≡ None
IsLiveRefusal s number (failure.Fault fault.WrongBase) = ⊥
IsLiveRefusal s number (failure.Fault fault.Pruned) = IsPrunedCall s number
IsLiveRefusal s number (failure.Fault fault.NoProgram) = IsLiveWithoutProgram s number
IsLiveRefusal s number failure.Memory = IsSome (met_live s number)

-- why there is no ledger before a timestamp
abbrev pub IsBelowLow : Store → ℕ → Failure OpenFault → Type 0
IsBelowLow s timestamp (failure.Fault fault.Pruned) = timestamp ≤ s.world.low
IsBelowLow s timestamp (failure.Fault _) = ⊥
IsBelowLow s timestamp failure.Memory = Unit {0}
