use Rattle.mv_chain.proofs.Agreements.{every_commit_keeps_agreement_lem, no_version_is_at_a_fresh_timestamp_lem, every_write_follows_the_version_below_lem}
use Rattle.mv_chain.proofs.agreement.every_commit_keeps_agreement.Goals as goal

pub returns-clause-commit : goal.returns-clause-commit
returns-clause-commit g c = every_commit_keeps_agreement_lem g.row.Item.Denot g.row.Value.Denot g.row.Outcome.Denot g.row.V.Denot

pub returns-clause-fresh : goal.returns-clause-fresh
returns-clause-fresh g c = no_version_is_at_a_fresh_timestamp_lem g.row.Item.Denot g.row.Value.Denot g.row.Outcome.Denot g.row.V.Denot

pub returns-clause-follows : goal.returns-clause-follows
returns-clause-follows g c = every_write_follows_the_version_below_lem g.row.Item.Denot g.row.Value.Denot g.row.Outcome.Denot g.row.V.Denot
