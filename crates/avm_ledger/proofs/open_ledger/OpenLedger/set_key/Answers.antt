use Rattle.std.proofs.lemmas.Result.{IfOk-weaker, on_err_weaker}
use Rattle.avm_states.specs.Entries.{with_entry}
use Rattle.avm_ledger.proofs.Changes.{written_in_order, written_state, kept_state}
use Rattle.avm_ledger.proofs.open_ledger.OpenLedger.set_key.Goals as goal

pub invariant_of-self-2 : goal.invariant_of-self-2
invariant_of-self-2 c =
    written_in_order _ c.args.id c.in-Some.app.now _ _ c.self.invariant c.in-Some.ensures.value (c.get_mut.follows.holds _).0 c.insert.ensures.order

pub returns-clause-set : goal.returns-clause-set
returns-clause-set c =
    rw (← c.self.view_is) (IfOk-weaker c.insert.result _ _ (λ old set. written_state _ c.args.id c.in-Some.app.now (λ state. with_entry state c.args.key c.args.value) _ _ c.self.invariant c.in-Some.ensures.value (c.get_mut.follows.holds _).0 set) c.insert.ensures.set)

pub returns-clause-unchanged : goal.returns-clause-unchanged
returns-clause-unchanged c =
    rw (← c.self.view_is) (on_err_weaker c.insert.result (λ kept. kept_state _ c.args.id c.in-Some.app.now _ _ c.in-Some.ensures.value (c.get_mut.follows.holds _).0 kept) c.insert.ensures.unchanged)
