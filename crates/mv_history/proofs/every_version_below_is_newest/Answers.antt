use Rattle.mv_history.proofs.Newest.{every_version_below_is_newest_lem}
use Rattle.mv_history.proofs.every_version_below_is_newest.Goals as goal

pub returns : goal.returns
returns g c = every_version_below_is_newest_lem g.row.Item.Denot g.row.Value.Denot g.row.Outcome.Denot
