-- The entry of a block that is opened, from the parts of it.
use Rattle.std.proofs.Common.{◌≡◌, ℕ, ◌-◌, IfErr, IfOk, Option, None, Some, Result, Ok, Err, refl, subst, ◌∙◌}
use Rattle.std.specs.Prelude.{IsSome}
use Rattle.teal_value.specs.declared.failure.Failure.{Failure}
use Rattle.teal_value.specs.declared.failure.Failure.TheVariants as failure
use Rattle.avm_ledger.specs.declared.header.Header.{Header}
use Rattle.avm_ledger.specs.Ledgers.{Ledger}
use Rattle.avm_ledger.specs.Encodings.{ledger_digest}
use Rattle.avm_block.specs.declared.entry.Entry.{Entry}
use Rattle.avm_block.specs.Blocks.{Block}
use Rattle.avm_replay.specs.Past.{ledger_until}
use Rattle.avm_block.specs.declared.past_faults.OpenFault.{OpenFault}
use Rattle.avm_block.specs.declared.past_faults.OpenFault.TheVariants as fault
use Rattle.avm_stepper.specs.Debugging.{Debugged}
use Rattle.avm_stepper.specs.Opening.{HasNoProgram, HasProgram, IsDebugRefusal, IsOpened, IsStartRefusal, entry_numbered}

-- the entry of the block, and the ledger that its call met
pub record IsMet (base : Ledger) (b : Block) (number : ℕ) (e : Entry) (l : Ledger) (header : Header) : Type 0 where
  pub there : entry_numbered b.entries number ≡ Some e
  pub same_base : b.base ≡ ledger_digest base
  pub before : l ≡ ledger_until base b (e.timestamp - 1)
  pub same_header : header ≡ b.header

abbrev first_of : Ledger → Entry → Header → Option Debugged
first_of l e header = Some (record { ledger = l; call = e.call; header = header; steps = 0; fault = None })

-- where the entry's call is started over the ledger that it met, the entry is opened
pub opens_met : (base : Ledger) (b : Block) (number : ℕ) (e : Entry) (l : Ledger) (header : Header) (r : Result (Option Debugged) (Failure OpenFault)) → IsMet base b number e l header
    → IfOk r (λ d. d ≡ first_of l e header) → IfOk r (λ d. HasProgram l e.call) → IfOk r (λ d. IsOpened base b number d)
opens_met base b number e l header (Ok d) met is program = record {
  entry = e;
  there = met.there;
  same_base = met.same_base;
  program = subst (λ m. HasProgram m e.call) met.before program;
  now = is ∙ (λ i. first_of (met.before i) e (met.same_header i));
}
opens_met base b number e l header (Err f) met is program = tt

some_there : (o : Option Entry) (e : Entry) → o ≡ Some e → IsSome o
some_there (Some d) e is = refl
some_there None e is = absurd cc

-- a refusal to start the call is one to open the entry
pub refuses_met : (base : Ledger) (b : Block) (number : ℕ) (e : Entry) (l : Ledger) (header : Header) (r : Result (Option Debugged) (Failure OpenFault)) → IsMet base b number e l header
    → IfErr r (IsStartRefusal l e.call) → IfErr r (IsDebugRefusal base b number)
refuses_met base b number e l header (Ok d) met refused = tt
refuses_met base b number e l header (Err failure.Memory) met refused = some_there (entry_numbered b.entries number) e met.there
refuses_met base b number e l header (Err (failure.Fault fault.NoProgram)) met refused = record {
  entry = e;
  there = met.there;
  same_base = met.same_base;
  none = subst (λ m. HasNoProgram m e.call) met.before refused;
}
refuses_met base b number e l header (Err (failure.Fault fault.NoEntry)) met refused = absurd refused
refuses_met base b number e l header (Err (failure.Fault fault.WrongBase)) met refused = absurd refused
refuses_met base b number e l header (Err (failure.Fault fault.Pruned)) met refused = absurd refused
