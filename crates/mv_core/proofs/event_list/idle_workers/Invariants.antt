use Rattle.std.proofs.Common.{◌≡◌, replicate}
use Rattle.mv_core.specs.declared.world.Worker.TheVariants.{Idle}
use Rattle.mv_core.proofs.event_list.idle_workers.Given as goal

abbrev pub invariant-loop-number : goal.invariant-loop-number
invariant-loop-number l = l.workers.items ≡ replicate l._number Idle
