use Rattle.std.proofs.Common.{Some, ap, sym, ◌∙◌, arith}
use Rattle.mv_core.proofs.WorkerSteps.{live_here, stepped}
use Rattle.mv_core.proofs.event_list.act.Goals as goal

pub work-requires-clause-live : goal.work-requires-clause-live
work-requires-clause-live g c κs within =
    live_here c.args.store.now c.args.workers.now.items c.from-index.result c.replace-worker.result c.index_mut.result.now (omega (arith, c.if-index-len.false, c.len.ensures)) c.replace-worker.ensures.value c.index_mut.ensures.value c.requires.live

pub returns-in-Ok : goal.returns-in-Ok
returns-in-Ok g c =
    stepped c.args.event c.args.store.now c.work.new.store c.args.workers.now.items c.from-index.result c.replace-worker.result c.index_mut.result.now c.replace-worker.new.dest c.in-Ok.after (c.requires.own ∙ ap Some (sym c.from-index.ensures))
    (omega (arith, c.if-index-len.false, c.len.ensures)) c.replace-worker.ensures.value c.index_mut.ensures.value c.requires.sound c.in-Ok.ensures.sound c.in-Ok.ensures.work
