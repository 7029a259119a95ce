use Rattle.mv_history.proofs.Newest.{every_commit_is_found_lem}
use Rattle.mv_history.proofs.every_commit_is_found.Goals as goal

pub returns : goal.returns
returns g c = every_commit_is_found_lem g.row.Item.Denot g.row.Value.Denot g.row.Outcome.Denot
