use Rattle.avm_replay.proofs.WorkedVerdicts.{agrees, other_outcome}
use Rattle.avm_replay.proofs.worked.verdicts.Goals as goal

pub returns-clause-agrees : goal.returns-clause-agrees
returns-clause-agrees c = agrees

pub returns-clause-wrong_outcome : goal.returns-clause-wrong_outcome
returns-clause-wrong_outcome c = other_outcome
