use Rattle.avm_pool.proofs.NumberSteps.{forks}
use Rattle.avm_pool.proofs.call_numbers.Numbers.worker.Goals as goal

pub another-requires-clause-rule : goal.another-requires-clause-rule
another-requires-clause-rule c = forks _ _
