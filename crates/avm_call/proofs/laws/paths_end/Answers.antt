use Rattle.avm_call.proofs.Paths as paths
use Rattle.avm_call.proofs.laws.paths_end.Goals as goal

pub returns : goal.returns
returns c = paths.paths_end
