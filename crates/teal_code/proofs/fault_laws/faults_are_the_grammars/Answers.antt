use Rattle.teal_code.proofs.Prefixes.{faults_are}
use Rattle.teal_code.proofs.fault_laws.faults_are_the_grammars.Goals as goal

pub returns : goal.returns
returns c = faults_are
