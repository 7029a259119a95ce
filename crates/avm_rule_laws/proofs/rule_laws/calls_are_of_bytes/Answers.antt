use Rattle.avm_rule_laws.proofs.SoundReading.{call_of_bytes}
use Rattle.avm_rule_laws.proofs.rule_laws.calls_are_of_bytes.Goals as goal

pub returns : goal.returns
returns c = call_of_bytes
