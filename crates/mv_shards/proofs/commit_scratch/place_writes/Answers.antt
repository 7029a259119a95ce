use Rattle.mv_shards.proofs.Left.{next_left, none_left}
use Rattle.mv_shards.proofs.Scratch.{grows_next, has_room, makes_all, makes_on, parts_then, room_stays}
use Rattle.mv_shards.proofs.commit_scratch.place_writes.Goals as goal

pub add_room_for-requires : goal.add_room_for-requires
add_room_for-requires c = grows_next _ _ _ _ _ (next_left _ _ c.as_slice-item-items.ensures.all c.loop-item.item-index _ c.loop-item-test.true c.loop-item-item.is) c.loop-item.invariant.grows

pub returns-in_err-spot-clause-grown : goal.returns-in_err-spot-clause-grown
returns-in_err-spot-clause-grown c = parts_then _ _ _ c.loop-item.invariant.grows.grown c.add_room_for.ensures.grown

pub returns-in_err-clone-clause-grown : goal.returns-in_err-clone-clause-grown
returns-in_err-clone-clause-grown c = parts_then _ _ _ c.loop-item.invariant.grows.grown c.add_room_for.ensures.grown

pub returns-in_err-push-clause-grown : goal.returns-in_err-push-clause-grown
returns-in_err-push-clause-grown c = parts_then _ _ _ c.loop-item.invariant.grows.grown c.add_room_for.ensures.grown

pub loop-item-preserved : goal.loop-item-preserved
loop-item-preserved c =
    makes_on has_room room_stays _ _ _ _ _ _ _ _ _ _ (next_left _ _ c.as_slice-item-items.ensures.all c.loop-item.item-index _ c.loop-item-test.true c.loop-item-item.is) c.in_ok-push.ensures.items c.add_room_for.ensures.grown c.in_ok-spot.ensures.roomier
    (record { spot = c.in_ok-spot.ensures.spot; value = c.in_ok-clone.ensures }, c.in_ok-spot.ensures.room) c.loop-item.invariant

pub returns-clause-placed : goal.returns-clause-placed
returns-clause-placed c = makes_all has_room _ _ _ _ _ (none_left _ _ c.as_slice-item-items.ensures.all c.loop-item.item-index c.loop-item-test.false) c.loop-item.invariant
