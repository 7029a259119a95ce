use Rattle.mv_history.proofs.SameWorlds.{same_events_lead_to_same_worlds_lem, same_commits_are_in_time_lem}
use Rattle.mv_history.proofs.same_events_lead_to_same_worlds.Goals as goal

pub returns-clause-worlds : goal.returns-clause-worlds
returns-clause-worlds g c = same_events_lead_to_same_worlds_lem g.row.Item.Denot g.row.Value.Denot g.row.Outcome.Denot

pub returns-clause-in_time : goal.returns-clause-in_time
returns-clause-in_time g c = same_commits_are_in_time_lem g.row.Item.Denot g.row.Value.Denot g.row.Outcome.Denot
