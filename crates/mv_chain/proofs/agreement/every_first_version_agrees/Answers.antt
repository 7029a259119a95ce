use Rattle.mv_chain.proofs.Agreements.{every_first_version_agrees_lem}
use Rattle.mv_chain.proofs.agreement.every_first_version_agrees.Goals as goal

pub returns : goal.returns
returns g c = every_first_version_agrees_lem g.row.Item.Denot g.row.Value.Denot g.row.Outcome.Denot g.row.V.Denot
