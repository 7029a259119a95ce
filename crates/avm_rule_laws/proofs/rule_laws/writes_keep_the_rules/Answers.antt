use Rattle.avm_rule_laws.proofs.KeptRules.{writes_keep_the_rules}
use Rattle.avm_rule_laws.proofs.rule_laws.writes_keep_the_rules.Goals as goal

pub returns : goal.returns
returns c = writes_keep_the_rules
