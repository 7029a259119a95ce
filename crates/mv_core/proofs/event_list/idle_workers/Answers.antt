use Rattle.mv_core.proofs.EventRuns.{one_more_idle}
use Rattle.mv_core.proofs.event_list.idle_workers.Goals as goal

pub loop-number-preserved : goal.loop-number-preserved
loop-number-preserved c = rw c.in_ok-push.ensures.items (one_more_idle _ c.loop-number.workers.items c.loop-number.invariant)
