use Rattle.mv_chain.proofs.Stores.{every_commit_leaves_a_store_lem, every_prune_leaves_a_store_lem, every_read_leaves_a_store_lem}
use Rattle.mv_chain.proofs.agreement.every_event_leaves_a_store.Goals as goal

pub returns-clause-read : goal.returns-clause-read
returns-clause-read g c = every_read_leaves_a_store_lem g.row.Item.Denot g.row.Value.Denot g.row.Outcome.Denot g.row.V.Denot g.P.ProperLookups.is_proper

pub returns-clause-commit : goal.returns-clause-commit
returns-clause-commit g c = every_commit_leaves_a_store_lem g.row.Item.Denot g.row.Value.Denot g.row.Outcome.Denot g.row.V.Denot g.P.ProperLookups.is_proper

pub returns-clause-prune : goal.returns-clause-prune
returns-clause-prune g c = every_prune_leaves_a_store_lem g.row.Item.Denot g.row.Value.Denot g.row.Outcome.Denot g.row.V.Denot g.P.ProperLookups.is_proper
