use Rattle.json_views.proofs.FoundTraces.{start_ending}
use Rattle.json_views.proofs.trace.put_opened_trace.Goals as goal

pub put_run_trace-requires-clause-start : goal.put_run_trace-requires-clause-start
put_run_trace-requires-clause-start g c κs within =
    start_ending c.args.stepper.now c.args.entry.now.call c.args.context.now.header.now c.ledger.result.now c.in_ok-found.found c.requires.start c.ledger.ensures c.in_ok-found.ensures.outcome
