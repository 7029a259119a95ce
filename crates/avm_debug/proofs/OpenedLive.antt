-- The committed call of a store that is opened, from the parts of it.
use Rattle.std.proofs.Common.{◌≡◌, ◌<◌, ℕ, ◌-◌, IfOk, Option, None, Some, Result, Ok, Err, subst, ◌∙◌}
use Rattle.teal_value.specs.declared.failure.Failure.{Failure}
use Rattle.avm_ledger.specs.declared.header.Header.{Header}
use Rattle.avm_ledger.specs.Ledgers.{Ledger}
use Rattle.avm_items.specs.declared.call_data.CallData.{CallData}
use Rattle.mv_core.specs.SeenStores.{Store}
use Rattle.avm_block.specs.declared.past_faults.OpenFault.{OpenFault}
use Rattle.avm_stepper.specs.Debugging.{Debugged}
use Rattle.avm_debug.specs.LiveOpening.{IsOpenedLive, ledger_of_store, met_live}
use Rattle.avm_stepper.specs.Opening.{HasProgram}

abbrev first_of : Ledger → CallData → Header → Option Debugged
first_of l call header = Some (record { ledger = l; call = call; header = header; steps = 0; fault = None })

-- the call, and the ledger that it met
pub record IsMetLive (s : Store) (number timestamp : ℕ) (call : CallData) (l : Ledger) (header : Header) : Type 0 where
  pub there : met_live s number ≡ Some (timestamp, call)
  pub kept : s.world.low < timestamp
  pub before : l ≡ ledger_of_store s (timestamp - 1)
  pub same_header : header ≡ s.header

-- a debugger before the first instruction of a met call's program is opened from the store
pub opens_live : (s : Store) (number timestamp : ℕ) (call : CallData) (l : Ledger) (header : Header) (r : Result (Option Debugged) (Failure OpenFault)) → IsMetLive s number timestamp call l header
    → IfOk r (λ d. d ≡ first_of l call header) → IfOk r (λ d. HasProgram l call) → IfOk r (λ d. IsOpenedLive s number d)
opens_live s number timestamp call l header (Ok d) met is program = record {
  timestamp = timestamp;
  call = call;
  there = met.there;
  kept = met.kept;
  program = subst (λ m. HasProgram m call) met.before program;
  now = is ∙ (λ i. first_of (met.before i) call (met.same_header i));
}
opens_live s number timestamp call l header (Err f) met is program = tt
