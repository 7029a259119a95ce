use Rattle.avm_rule_laws.proofs.DistinctEncodings.{headers_apart}
use Rattle.avm_rule_laws.proofs.encoding_laws.headers_apart.Goals as goal

pub returns : goal.returns
returns c = headers_apart
