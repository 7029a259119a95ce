use Rattle.mv_history.proofs.Lateness.{every_commit_is_in_time_or_late_lem, no_commit_in_time_is_late_lem, no_mark_is_above_the_greatest_lem}
use Rattle.mv_history.proofs.every_commit_is_in_time_or_late.Goals as goal

pub returns-clause-evidence : goal.returns-clause-evidence
returns-clause-evidence g c = every_commit_is_in_time_or_late_lem g.row.Item.Denot g.row.Value.Denot g.row.Outcome.Denot

pub returns-clause-not_both : goal.returns-clause-not_both
returns-clause-not_both g c = no_commit_in_time_is_late_lem g.row.Item.Denot g.row.Value.Denot g.row.Outcome.Denot

pub returns-clause-greatest : goal.returns-clause-greatest
returns-clause-greatest g c = no_mark_is_above_the_greatest_lem g.row.Item.Denot
