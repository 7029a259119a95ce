use Rattle.std.proofs.Common.{subst, sym}
use Rattle.avm_items.specs.Putting.{AllPutBack}
use Rattle.avm_items.proofs.PutBack.{last_put_back}
use Rattle.avm_items.proofs.writing.put_all_back.Goals as goal

pub loop-item-preserved : goal.loop-item-preserved
loop-item-preserved c = λ before all.
    let rest = last_put_back c.loop-item.ledger c.pop.new.self.items (c.in-Some.item, c.in-Some.old) before (subst (λ es. AllPutBack c.loop-item.ledger es before) c.in-Some.ensures.items (c.loop-item.invariant before all)) in
    subst (λ m. AllPutBack m c.pop.new.self.items before) (sym (c.put_back.ensures rest.0)) rest.1
