use Rattle.std.proofs.Common.{◌≡◌, ◌+◌, ◌++◌, drop, sym, ap, ◌∙◌}
use Rattle.avm_items.specs.Items.{with_item}
use Rattle.avm_stepper.proofs.Copies.{copied_next, items_left}
use Rattle.avm_stepper.proofs.prepared.copied.Goals as goal

pub loop-item-preserved : goal.loop-item-preserved
loop-item-preserved c =
    let copy = c.loop-item.copy in
    let e = c.loop-item-item.result in
    let rest = drop (c.loop-item.item-index + 1) c.args.items.now in
    let left = items_left c.args.items.now _ c.as_slice-item-items.ensures.all c.loop-item.item-index e c.loop-item-test.true c.loop-item-item.is in
    let inserted : c.insert.new.self ≡ with_item copy e.0 e.1 = c.in_ok-insert.ensures.ok ∙ (λ i. with_item copy (c.copied.ensures i) (c.in_ok-clone.ensures i)) in
    record {
      order = c.loop-item.invariant.order;
      all = ap (λ m. m ++ rest) inserted
          ∙ copied_next c.args.items.now copy e.0 e.1 rest c.loop-item.invariant.order (ap (λ r. copy ++ r) (sym left) ∙ c.loop-item.invariant.all);
    }
