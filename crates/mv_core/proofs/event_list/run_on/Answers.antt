use Rattle.mv_core.specs.Worlds.{input_of}
use Rattle.mv_core.proofs.EventRuns.{live_all, run_all, run_further, sound_all}
use Rattle.mv_core.proofs.event_list.run_on.Goals as goal

pub step-requires-clause-sound : goal.step-requires-clause-sound
step-requires-clause-sound g c κs within = sound_all _ _ c.loop-event.store c.loop-event.workers.items c.loop-event.invariant

pub step-requires-clause-live : goal.step-requires-clause-live
step-requires-clause-live g c κs within = live_all _ _ c.loop-event.store c.loop-event.workers.items c.loop-event.invariant

pub loop-event-preserved : goal.loop-event-preserved
loop-event-preserved g c =
    run_further (input_of c.args.store.now) c.args.events.now c.loop-event.event-index _ c.loop-event.store c.step.new.store c.loop-event.workers.items c.step.new.workers.items c.loop-event-test.true c.loop-event.invariant c.in_ok-step.ensures

pub returns : goal.returns
returns g c = run_all (input_of c.args.store.now) c.args.events.now c.loop-event.event-index c.loop-event.store c.loop-event.workers.items c.loop-event-test.false c.loop-event.invariant
