use Rattle.std.proofs.Common.{◌-◌, length}
use Rattle.avm_call.specs.Ends.{most_items}
use Rattle.avm_stepper.specs.Starting.{StartsOver}
use Rattle.avm_stepper.specs.Stepping.{reads_in}
use Rattle.avm_stepper.proofs.opening.start_over.Given as goal

abbrev pub invariant-loop-item : goal.invariant-loop-item
invariant-loop-item g l = record { starts : StartsOver l.ledger l.initial.run l.run }

abbrev pub decreases-loop-item : goal.decreases-loop-item
decreases-loop-item g l = most_items - length (reads_in l.run)

abbrev pub ghosts-try_start : goal.ghosts-try_start
ghosts-try_start g a = record { name = a.blank.name; parts = a.blank.parts }
