use Rattle.avm_commands.specs.DebugRuns.{HasCome}
use Rattle.avm_commands.proofs.debug_command.stepper_at.Given as goal

abbrev pub invariant-loop-step : goal.invariant-loop-step
invariant-loop-step g l = record { come : HasCome l.base l.block l.entry l._step l.stepper }
