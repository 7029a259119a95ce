use Rattle.avm_stepper.proofs.Beginning.{ends_at_tests}
use Rattle.avm_stepper.proofs.opening.try_start.Goals as goal

pub returns-in-Ok-Done : goal.returns-in-Ok-Done
returns-in-Ok-Done g c = ends_at_tests c.args.run.now c.step_one.new.self _ c.requires.tests (rw c.in-Ok-Done.field-0-is at c.in-Ok-Done.ensures.steps)
