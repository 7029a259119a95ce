use Rattle.std.proofs.Common.{◌≡◌, ◌+◌, Err, true, false, not, ap, subst, arith}
use Rattle.avm_stepper.specs.DebugSteps.{StepsTo}
use Rattle.json_views.proofs.StateRuns.{WrittenOn, all_on, bound_on, first_on, goes_if, heavy_end, heavy_on, never_on, next_on, stops_if, written_on}
use Rattle.json_views.proofs.trace_states.put_states.Goals as goal
use Rattle.json_views.proofs.trace_states.put_states.Goals.{After-from-cost}

pub loop-step-init : goal.loop-step-init
loop-step-init g c = record { run = first_on c.args.program.now c.args.stepper.now c.args.out.now _ c.requires.start c.in_ok-begin_array.ensures }

pub overflow_add-cost : goal.overflow_add-cost
overflow_add-cost g c =
    let bound = bound_on c.args.program.now c.args.stepper.now c.loop-step.stepper c.args.out.now c.loop-step.out c.loop-step._step c.loop-step.cost c.loop-step.invariant.run in
    omega (arith, bound, c.from-cost.ensures, c.in_ok-written.ensures.small, c.loop-step-test.true)

-- the state in which the stepper stands was written
written : (g : _) (c : After-from-cost g) → WrittenOn c.args.program.now c.args.stepper.now c.args.out.now c.put_current.new.out c.loop-step._step (c.loop-step.cost + c.from-cost.result) c.in_ok-written.written.goes_on
written g c =
    let w = c.in_ok-written.written in
    let more = c.loop-step.cost + c.from-cost.result in
    let sum : more ≡ c.loop-step.cost + w.cost = ap (λ n. c.loop-step.cost + n) c.from-cost.ensures in
    written_on c.args.program.now c.args.stepper.now c.loop-step.stepper c.args.out.now c.loop-step.out c.put_current.new.out c.loop-step._step c.loop-step.cost w.cost more w.goes_on c.loop-step.invariant.run c.in_ok-written.ensures.written c.in_ok-written.ensures.small sum

-- and an instruction comes next
on_written : (g : _) (c : After-from-cost g) → not c.in_ok-written.written.goes_on ≡ false → WrittenOn c.args.program.now c.args.stepper.now c.args.out.now c.put_current.new.out c.loop-step._step (c.loop-step.cost + c.from-cost.result) true
on_written g c goes =
    subst (WrittenOn c.args.program.now c.args.stepper.now c.args.out.now c.put_current.new.out c.loop-step._step (c.loop-step.cost + c.from-cost.result)) (goes_if c.in_ok-written.written.goes_on goes)
    (written g c)

pub returns-then-is_too_long-clause-refused : goal.returns-then-is_too_long-clause-refused
returns-then-is_too_long-clause-refused g c =
    heavy_on c.args.program.now c.args.stepper.now c.loop-step.stepper c.args.out.now c.loop-step.out c.put_current.new.out c.loop-step._step c.loop-step.cost (c.loop-step.cost + c.from-cost.result) c.in_ok-written.written.goes_on c.loop-step.invariant.run
    (written g (goal.at.returns-then-is_too_long-clause-refused g c).After-from-cost) (c.is_too_long.ensures c.if-is_too_long.true)

pub returns-then-not-written-clause-written : goal.returns-then-not-written-clause-written
returns-then-not-written-clause-written g c =
    let more = c.loop-step.cost + c.from-cost.result in
    let last = subst (WrittenOn c.args.program.now c.args.stepper.now c.args.out.now c.put_current.new.out c.loop-step._step more) (stops_if c.in_ok-written.written.goes_on c.if-not-written.true)
    (written g (goal.at.returns-then-not-written-clause-written g c).After-from-cost) in
    all_on c.args.program.now c.args.stepper.now c.loop-step.stepper c.args.out.now c.loop-step.out c.put_current.new.out c.end_array.new.out c.loop-step._step c.loop-step.cost more c.loop-step.invariant.run last c.in_ok-end_array.ensures.is

pub unreachable-requires : goal.unreachable-requires
unreachable-requires g c =
    let ended = subst (λ e. StepsTo c.loop-step.stepper c.step.new.self (Err e)) c.in-Err-Fault.field-0-is c.in-Err-Fault.ensures in
    never_on c.args.program.now c.args.stepper.now c.loop-step.stepper c.step.new.self c.args.out.now c.loop-step.out c.put_current.new.out c.loop-step._step c.loop-step.cost (c.loop-step.cost + c.from-cost.result) c.in-Err-Fault._ended c.loop-step.invariant.run
    (on_written g (goal.at.unreachable-requires g c).After-from-cost c.if-not-written.false) ended

pub loop-step-preserved : goal.loop-step-preserved
loop-step-preserved g c =
    record {
      run = next_on c.args.program.now c.args.stepper.now c.loop-step.stepper c.step.new.self c.args.out.now c.loop-step.out c.put_current.new.out c.loop-step._step c.loop-step.cost (c.loop-step.cost + c.from-cost.result) c.loop-step.invariant.run
          (on_written g (goal.at.loop-step-preserved g c).After-from-cost c.if-not-written.false) c.in-Ok.ensures;
    }

pub returns-clause-refused : goal.returns-clause-refused
returns-clause-refused g c =
    heavy_end c.args.program.now c.args.stepper.now c.loop-step.stepper c.args.out.now c.loop-step.out c.loop-step._step c.loop-step.cost c.loop-step.invariant.run (omega (arith, c.loop-step-test.false))
