use Rattle.mv_history.proofs.Plain.{every_plain_interleaving_keeps_all_lem}
use Rattle.mv_history.proofs.every_plain_interleaving_keeps_all.Goals as goal

pub returns : goal.returns
returns g c = every_plain_interleaving_keeps_all_lem g.row.Item.Denot g.row.Value.Denot g.row.Outcome.Denot g.P.ProperLookups.is_proper
