use Rattle.avm_pool.proofs.NumberSteps.{draws, allows}
use Rattle.avm_pool.proofs.call_numbers.Numbers.draw.Goals as goal

pub pop_as-requires-clause-rule : goal.pop_as-requires-clause-rule
pop_as-requires-clause-rule g c = (draws _ _, allows _ _)
