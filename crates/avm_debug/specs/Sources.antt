-- What a debugger opens calls of: a block over the ledger before it, or a store, by what is committed so far.
use Rattle.std.specs.Prelude.{◌≢◌, ℕ, ◌<◌, Option}
use Rattle.teal_value.specs.declared.failure.Failure.{Failure}
use Rattle.avm_ledger.specs.Ledgers.{Ledger}
use Rattle.avm_ledger.specs.Encodings.{ledger_digest}
use Rattle.avm_replay.specs.Past.{ledger_until}
use Rattle.avm_block.specs.declared.past_faults.OpenFault.{OpenFault}
use Rattle.avm_debug.specs.declared.source.Source.{Source}
use Rattle.avm_debug.specs.declared.source.Source.TheVariants as source
use Rattle.avm_stepper.specs.Debugging.{Debugged}
use Rattle.avm_debug.specs.LiveOpening.{IsLiveRefusal, IsOpenedLive, ledger_of_store}
use Rattle.avm_stepper.specs.Opening.{IsDebugRefusal, IsOpened}

-- the ledger after the calls with timestamps up to this one
abbrev pub past_ledger : Source → ℕ → Ledger
past_ledger (source.Block base block) timestamp = ledger_until base.now block.now timestamp
past_ledger (source.Live store) timestamp = ledger_of_store store.now timestamp

-- the block stands over another ledger
abbrev pub HasWrongBase : Source → Type 0
HasWrongBase (source.Block base block) = block.now.base ≢ ledger_digest base.now
HasWrongBase (source.Live store) = ⊥

-- the timestamp is below the store's low mark
abbrev pub IsPrunedSource : Source → ℕ → Type 0
IsPrunedSource (source.Block base block) timestamp = ⊥
IsPrunedSource (source.Live store) timestamp = timestamp < store.now.world.low

-- the call of an entry stands before the first instruction of its program
abbrev pub IsOpenedFrom : Source → ℕ → Option Debugged → Type 0
IsOpenedFrom (source.Block base block) number d = IsOpened base.now block.now number d
IsOpenedFrom (source.Live store) number d = IsOpenedLive store.now number d

abbrev pub IsRefusedFrom : Source → ℕ → Failure OpenFault → Type 0
IsRefusedFrom (source.Block base block) number refusal = IsDebugRefusal base.now block.now number refusal
IsRefusedFrom (source.Live store) number refusal = IsLiveRefusal store.now number refusal
