use Rattle.mv_chain.proofs.Agreements.{every_prune_keeps_agreement_lem}
use Rattle.mv_chain.proofs.agreement.every_prune_keeps_agreement.Goals as goal

pub returns : goal.returns
returns g c = every_prune_keeps_agreement_lem g.row.Item.Denot g.row.Value.Denot g.row.Outcome.Denot g.row.V.Denot
