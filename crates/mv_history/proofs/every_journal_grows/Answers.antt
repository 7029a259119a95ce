use Rattle.mv_history.proofs.Journals.{every_journal_grows_lem}
use Rattle.mv_history.proofs.every_journal_grows.Goals as goal

pub returns : goal.returns
returns g c = every_journal_grows_lem g.row.Item.Denot g.row.Value.Denot g.row.Outcome.Denot g.P.ProperLookups.is_proper
