use Rattle.avm_pool.specs.NumberPasses.{IsWith}
use Rattle.avm_pool.proofs.worker.WorkerContext.run_numbers.Given as goal

abbrev pub invariant-loop : goal.invariant-loop
invariant-loop g l = IsWith l.numbers l.pass
