use Rattle.mv_shards.proofs.Left.{next_left, none_left}
use Rattle.mv_shards.proofs.Scratch.{grows_next, has_spot, makes_all, makes_on, parts_then, spot_stays}
use Rattle.mv_shards.proofs.commit_scratch.place_reads.Goals as goal

pub add_chain_for-requires : goal.add_chain_for-requires
add_chain_for-requires c = grows_next _ _ _ _ _ (next_left _ _ c.as_slice-item-items.ensures.all c.loop-item.item-index _ c.loop-item-test.true c.loop-item-item.is) c.loop-item.invariant.grows

pub returns-in_err-spot-clause-grown : goal.returns-in_err-spot-clause-grown
returns-in_err-spot-clause-grown c = parts_then _ _ _ c.loop-item.invariant.grows.grown c.add_chain_for.ensures.grown

pub returns-in_err-push-clause-grown : goal.returns-in_err-push-clause-grown
returns-in_err-push-clause-grown c = parts_then _ _ _ c.loop-item.invariant.grows.grown c.add_chain_for.ensures.grown

pub loop-item-preserved : goal.loop-item-preserved
loop-item-preserved c =
    makes_on has_spot spot_stays _ _ _ _ _ _ _ _ _ _ (next_left _ _ c.as_slice-item-items.ensures.all c.loop-item.item-index _ c.loop-item-test.true c.loop-item-item.is) c.in_ok-push.ensures.items c.add_chain_for.ensures.grown c.in_ok-spot.ensures.roomier
    c.in_ok-spot.ensures.spot c.loop-item.invariant

pub returns-clause-spots : goal.returns-clause-spots
returns-clause-spots c = makes_all has_spot _ _ _ _ _ (none_left _ _ c.as_slice-item-items.ensures.all c.loop-item.item-index c.loop-item-test.false) c.loop-item.invariant
