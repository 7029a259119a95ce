use Rattle.mv_history.proofs.OneWorker.{one_worker_commits_in_order_lem}
use Rattle.mv_history.proofs.one_worker_commits_in_order.Goals as goal

pub returns : goal.returns
returns g c = one_worker_commits_in_order_lem g.row.Item.Denot g.row.Value.Denot g.row.Outcome.Denot g.P.ProperLookups.is_proper
