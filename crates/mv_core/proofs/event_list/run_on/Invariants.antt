use Rattle.std.proofs.Common.{take}
use Rattle.mv_core.specs.Worlds.{IsRunTo, input_of}
use Rattle.mv_core.proofs.event_list.run_on.Given as goal

abbrev pub invariant-loop-event : goal.invariant-loop-event
invariant-loop-event g l = IsRunTo (input_of l.initial.store) (take l.event-index l.events) l.store l.workers.items
