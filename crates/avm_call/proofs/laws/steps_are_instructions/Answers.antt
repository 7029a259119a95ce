use Rattle.avm_call.proofs.Steps as steps
use Rattle.avm_call.proofs.laws.steps_are_instructions.Goals as goal

pub returns : goal.returns
returns c = steps.steps_are_instructions
