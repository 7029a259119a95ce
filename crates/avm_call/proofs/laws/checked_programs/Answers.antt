use Rattle.avm_call.proofs.LaidOut as programs
use Rattle.avm_call.proofs.laws.checked_programs.Goals as goal

pub returns-clause-laid_out : goal.returns-clause-laid_out
returns-clause-laid_out c = programs.laid_out

pub returns-clause-steps : goal.returns-clause-steps
returns-clause-steps c = programs.checked_steps
