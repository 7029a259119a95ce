use Rattle.avm_ledger.proofs.Changes.{written_row}
use Rattle.avm_ledger.proofs.open_ledger.OpenLedger.set_application.Goals as goal

pub returns-in-Some-clause-set : goal.returns-in-Some-clause-set
returns-in-Some-clause-set c =
    rw (← c.self.view_is) (written_row _ c.args.id c.in-Some.app.now c.args.row _ _ c.self.invariant c.in-Some.ensures.value (c.get_mut.follows.holds _).0 c.replace-old.ensures.after)
