use Rattle.std.proofs.Common.{Option, subst}
use Rattle.avm_stepper.specs.Debugging.{Debugged}
use Rattle.avm_stepper.specs.Shown.{IsLedgerOf}
use Rattle.avm_stepper.proofs.Shows.{ledger_kept}
use Rattle.avm_stepper.proofs.stepper.Stepper.ledger.Goals as goal

pub returns : goal.returns
returns c = subst (λ (m : Option Debugged). IsLedgerOf m c.self.inside.ledger) c.self.view_is (ledger_kept c.self.inside.ledger c.self.inside.fault c.self.inside.run)
