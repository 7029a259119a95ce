use Rattle.std.proofs.Common.{arith, refl}
use Rattle.avm_items.proofs.SameItems.{lists_alike, next_alike}
use Rattle.avm_items.proofs.item_map.are_same_entries.Goals as goal

pub loop-index-init : goal.loop-index-init
loop-index-init c i h d = absurd (omega (arith, h))

pub loop-index-preserved : goal.loop-index-preserved
loop-index-preserved c =
    next_alike c.args.entries.now c.args.others.now c.loop-index.index c.index-entries-index.result c.index-others-index.result (omega (arith, c.loop-index-test.true)) c.if-entries-others.false c.index-entries-index.is c.index-others-index.is
    (c.if-not-is_same_entry.ensures.0 refl) c.loop-index.invariant

pub returns : goal.returns
returns c = (λ t. lists_alike _ _ c.if-entries-others.false (λ i h d. c.loop-index.invariant i (omega (arith, h, c.loop-index-test.false)) d), λ e. refl)
