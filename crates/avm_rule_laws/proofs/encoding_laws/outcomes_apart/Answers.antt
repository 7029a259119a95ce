use Rattle.avm_rule_laws.proofs.DistinctEncodings.{outcomes_apart}
use Rattle.avm_rule_laws.proofs.encoding_laws.outcomes_apart.Goals as goal

pub returns : goal.returns
returns c = outcomes_apart
