use Rattle.mv_history.proofs.Journals.{every_journal_replays_lem}
use Rattle.mv_history.proofs.every_journal_replays.Goals as goal

pub returns : goal.returns
returns g c = every_journal_replays_lem g.row.Item.Denot g.row.Value.Denot g.row.Outcome.Denot g.P.ProperLookups.is_proper
