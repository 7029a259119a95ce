use Rattle.mv_history.proofs.CheckedCommits.{every_checked_commit_keeps_facts_lem}
use Rattle.mv_history.proofs.every_checked_commit_keeps_facts.Goals as goal

pub returns : goal.returns
returns g c = every_checked_commit_keeps_facts_lem g.row.Item.Denot g.row.Value.Denot g.row.Outcome.Denot g.P.ProperLookups.is_proper
