use Rattle.std.proofs.Common.{sym}
use Rattle.mv_core.proofs.WorkerSteps.{ticket_live}
use Rattle.mv_core.proofs.steps.abandon_by.Goals as goal

pub unreachable-requires : goal.unreachable-requires
unreachable-requires c = c.in-Err.ensures.unknown (ticket_live c.args.store.now _ c.in-Some.ticket (sym c.in-Some.ensures) c.requires.live)
