use Rattle.avm_rule_laws.proofs.DistinctEncodings.{schemas_apart, states_apart, values_apart}
use Rattle.avm_rule_laws.proofs.encoding_laws.states_apart.Goals as goal

pub returns-clause-values : goal.returns-clause-values
returns-clause-values c = values_apart

pub returns-clause-states : goal.returns-clause-states
returns-clause-states c = states_apart

pub returns-clause-schemas : goal.returns-clause-schemas
returns-clause-schemas c = schemas_apart
