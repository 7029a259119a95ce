use Rattle.avm_states.proofs.Counts as counts
use Rattle.avm_states.proofs.laws.counts_follow.Goals as goal

pub returns-clause-puts : goal.returns-clause-puts
returns-clause-puts c = counts.follow_puts

pub returns-clause-deletes : goal.returns-clause-deletes
returns-clause-deletes c = counts.follow_deletes

pub returns-clause-same_kind : goal.returns-clause-same_kind
returns-clause-same_kind c = counts.stay_with_kind
