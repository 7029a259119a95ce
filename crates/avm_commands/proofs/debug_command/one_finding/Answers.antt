use Rattle.avm_commands.proofs.OneFinding.{one_finding}
use Rattle.avm_commands.proofs.debug_command.one_finding.Goals as goal

pub returns : goal.returns
returns c = one_finding
