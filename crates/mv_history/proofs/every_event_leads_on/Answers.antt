use Rattle.mv_history.proofs.Worlds.{every_event_leads_on_lem, every_prune_applies_lem, every_listing_of_marks_serves_lem}
use Rattle.mv_history.proofs.every_event_leads_on.Goals as goal

pub returns-clause-reachable : goal.returns-clause-reachable
returns-clause-reachable g c = every_event_leads_on_lem g.row.Item.Denot g.row.Value.Denot g.row.Outcome.Denot g.P.ProperLookups.is_proper

pub returns-clause-prune : goal.returns-clause-prune
returns-clause-prune g c = every_prune_applies_lem g.row.Item.Denot g.row.Value.Denot g.row.Outcome.Denot g.P.ProperLookups.is_proper

pub returns-clause-listing : goal.returns-clause-listing
returns-clause-listing g c = every_listing_of_marks_serves_lem g.row.Item.Denot g.row.Value.Denot g.row.Outcome.Denot g.P.ProperLookups.is_proper
