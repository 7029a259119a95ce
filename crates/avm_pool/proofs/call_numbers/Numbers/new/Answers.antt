use Rattle.avm_pool.proofs.NumberSteps.{begins}
use Rattle.avm_pool.proofs.call_numbers.Numbers.new.Goals as goal

pub ruled-requires-clause-rule : goal.ruled-requires-clause-rule
ruled-requires-clause-rule c = begins
