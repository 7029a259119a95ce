use Rattle.mv_core.proofs.Openings.{none_empty, one_more_empty}
use Rattle.mv_core.proofs.opening.empty_slots.Goals as goal

pub loop-index-init : goal.loop-index-init
loop-index-init c = rw c.in_ok-slots.ensures.items none_empty

pub loop-index-preserved : goal.loop-index-preserved
loop-index-preserved c = rw c.in_ok-push.ensures.items (one_more_empty _ c.loop-index.slots.items c.loop-index.invariant)
