use Rattle.std.proofs.Common.{◌-◌, length}
use Rattle.avm_call.specs.Ends.{most_items}
use Rattle.avm_stepper.specs.Stepping.{GoesOnOver, reads_in}
use Rattle.avm_stepper.proofs.stepping.step_over.Given as goal

abbrev pub invariant-loop-fault : goal.invariant-loop-fault
invariant-loop-fault g l = record { goes_on : GoesOnOver l.ledger l.initial.run l.run }

abbrev pub decreases-loop-fault : goal.decreases-loop-fault
decreases-loop-fault g l = most_items - length (reads_in l.run)

abbrev pub ghosts-try_step : goal.ghosts-try_step
ghosts-try_step g a = record { name = a.blank.name; parts = a.blank.parts }
