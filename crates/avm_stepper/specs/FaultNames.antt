-- The names of faults, which commands print and errors show.
use Rattle.std.specs.Prelude.{ℕ, List, codes}
use Rattle.avm_stepper.specs.declared.step_fault.StepFault.{StepFault}
use Rattle.avm_stepper.specs.declared.step_fault.StepFault.TheVariants as step
use Rattle.avm_stepper.specs.declared.view.ViewFault.{ViewFault}
use Rattle.avm_stepper.specs.declared.view.ViewFault.TheVariants as view

abbrev pub step_fault_name : StepFault → List ℕ
step_fault_name step.Ended = codes "Ended"
step_fault_name step.Spent = codes "Spent"

abbrev pub view_fault_name : ViewFault → List ℕ
view_fault_name view.Spent = codes "Spent"
