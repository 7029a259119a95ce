use Rattle.avm_states.specs.Entries.{without_entry}
use Rattle.avm_ledger.proofs.Changes.{written_in_order, written_state}
use Rattle.avm_ledger.proofs.open_ledger.OpenLedger.remove_key.Goals as goal

pub invariant_of-self-2 : goal.invariant_of-self-2
invariant_of-self-2 c =
    written_in_order _ c.args.id c.in_ok-app.app.now _ _ c.self.invariant c.in_ok-app.ensures.value (c.get_mut.follows.holds _).0 c.remove.ensures.order

pub returns-clause-removed : goal.returns-clause-removed
returns-clause-removed c =
    rw (← c.self.view_is) (written_state _ c.args.id c.in_ok-app.app.now (λ state. without_entry state c.args.key.now) _ _ c.self.invariant c.in_ok-app.ensures.value (c.get_mut.follows.holds _).0 c.remove.ensures.removed)
