use Rattle.mv_history.proofs.Lateness.{every_commit_without_writes_is_in_time_lem}
use Rattle.mv_history.proofs.every_commit_without_writes_is_in_time.Goals as goal

pub returns : goal.returns
returns g c = every_commit_without_writes_is_in_time_lem g.row.Item.Denot g.row.Value.Denot g.row.Outcome.Denot
