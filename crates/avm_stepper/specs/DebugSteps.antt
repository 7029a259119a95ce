-- What a step of a debugger does.
use Rattle.std.specs.Prelude.{◌≡◌, ◌⊎◌, ℕ, ◌+◌, Option, Some, None, Result, Ok, Err}
use Rattle.teal_value.specs.declared.failure.Failure.{Failure}
use Rattle.teal_value.specs.declared.failure.Failure.TheVariants as failure
use Rattle.teal_value.specs.declared.fault.Fault.{Fault}
use Rattle.teal_code.specs.declared.instr.Instr.{Instr}
use Rattle.avm_call.specs.declared.outcome.Ended.TheVariants as ended
use Rattle.avm_call.specs.Runs.{Position}
use Rattle.avm_call.specs.Views.{Runs}
use Rattle.avm_stepper.specs.declared.step_fault.StepFault.{StepFault}
use Rattle.avm_stepper.specs.declared.step_fault.StepFault.TheVariants as fault
use Rattle.avm_stepper.specs.Debugging.{Debugged, next_shown, reached_by}

-- an instruction is shown to come next
abbrev pub IsBeforeInstruction : Debugged → Type 0
IsBeforeInstruction d = (i : Instr) × (next_shown d ≡ Some (Runs i))

-- The instruction is carried out: the path goes on by one step.
pub record IsMoved (before : Debugged) (after : Option Debugged) : Type 0 where
  pub instruction : IsBeforeInstruction before
  pub position : Position
  pub path : reached_by before (before.steps + 1) ≡ Some (position, None)
  pub now : after ≡ Some (record before { steps = before.steps + 1 })

-- The instruction faults: place and stack stay, and the fault is shown.
pub record IsFaulted (before : Debugged) (after : Option Debugged) : Type 0 where
  pub instruction : IsBeforeInstruction before
  pub position : Position
  pub fault : Fault
  pub place : ℕ
  pub stays : reached_by before before.steps ≡ Some (position, None)
  pub path : reached_by before (before.steps + 1) ≡ Some (position, Some (ended.Faulted fault place))
  pub now : after ≡ Some (record before { fault = Some fault })

-- What a call of `step` does, and answers. No value is a debugger that is spent.
abbrev pub StepsTo : Option Debugged → Option Debugged → Result (Unit {0}) (Failure StepFault) → Type 0
StepsTo (Some before) after (Ok _) = IsMoved before after ⊎ IsFaulted before after
StepsTo (Some before) after (Err failure.Memory) = IsBeforeInstruction before × (after ≡ None)
StepsTo (Some before) after (Err (failure.Fault fault.Ended)) = (IsBeforeInstruction before → ⊥) × (after ≡ Some before)
StepsTo (Some before) after (Err (failure.Fault fault.Spent)) = ⊥
StepsTo None after (Err (failure.Fault fault.Spent)) = after ≡ None
StepsTo None after _ = ⊥
