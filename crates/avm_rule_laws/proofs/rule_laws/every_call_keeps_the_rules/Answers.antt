use Rattle.avm_rule_laws.proofs.KeptRules.{every_call_keeps_the_rules, replays_keep_the_rules}
use Rattle.avm_rule_laws.proofs.rule_laws.every_call_keeps_the_rules.Goals as goal

pub returns-clause-call : goal.returns-clause-call
returns-clause-call c = every_call_keeps_the_rules

pub returns-clause-calls : goal.returns-clause-calls
returns-clause-calls c = replays_keep_the_rules
