use Rattle.mv_history.proofs.Settled.{every_event_keeps_settled_entries_lem, every_settled_entry_stays_lem}
use Rattle.mv_history.proofs.every_settled_entry_stays.Goals as goal

pub returns-clause-event : goal.returns-clause-event
returns-clause-event g c = every_event_keeps_settled_entries_lem g.row.Item.Denot g.row.Value.Denot g.row.Outcome.Denot g.P.ProperLookups.is_proper

pub returns-clause-events : goal.returns-clause-events
returns-clause-events g c = every_settled_entry_stays_lem g.row.Item.Denot g.row.Value.Denot g.row.Outcome.Denot g.P.ProperLookups.is_proper
