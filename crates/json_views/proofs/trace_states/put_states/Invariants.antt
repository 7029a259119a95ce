use Rattle.json_views.proofs.StateRuns.{StatesOn}
use Rattle.json_views.proofs.trace_states.put_states.Given as goal

abbrev pub invariant-loop-step : goal.invariant-loop-step
invariant-loop-step g l = record { run : StatesOn l.program l.fn.stepper l.stepper l.fn.out l.out l._step l.cost }
