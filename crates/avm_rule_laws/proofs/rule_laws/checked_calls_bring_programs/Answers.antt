use Rattle.avm_rule_laws.proofs.CheckedCalls.{checked_calls_bring_programs}
use Rattle.avm_rule_laws.proofs.rule_laws.checked_calls_bring_programs.Goals as goal

pub returns : goal.returns
returns c = checked_calls_bring_programs
