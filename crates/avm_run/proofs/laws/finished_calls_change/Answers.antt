use Rattle.avm_run.proofs.FinishedCalls.{on_ledgers}
use Rattle.avm_run.proofs.laws.finished_calls_change.Goals as goal

pub returns : goal.returns
returns c = on_ledgers c.args.finished.now c.holds.ensures.over_reads c.holds.ensures.asked
