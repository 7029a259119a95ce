use Rattle.std.proofs.Common.{Some, refl, sym, ap, ◌∙◌, subst}
use Rattle.avm_run.specs.declared.phase.Phase.{Phase}
use Rattle.avm_run.specs.declared.phase.PathOutcome.TheVariants.{Stops}
use Rattle.avm_run.specs.Executions.{Executes}
use Rattle.avm_run.specs.ExecutedSteps.{GoExecutes, steps_made}
use Rattle.avm_run.specs.Progress.{HasStep, next_step_number, reads_of, steps_of}
use Rattle.avm_run.proofs.Leading.{begins_there}
use Rattle.avm_run.proofs.Executing.{at_most_none, executes_none, if_err, tests_go}
use Rattle.avm_run.proofs.phase.step_on.Goals as goal

pub returns-in-Begins-clause-goes : goal.returns-in-Begins-clause-goes
returns-in-Begins-clause-goes g c =
    let call = c.args.call.now in
    let header = c.args.context.now.header.now in
    let tests = rw c.in-Begins.is at c.in_ok-running-in-Tests.ensures in
    let first = subst (HasStep call header c.in-Tests.items) tests.1 (begins_there call header c.in-Tests.items c.in-Begins.running.value tests.0) in
    record {
      same_reads = tests.0.same_items ∙ sym (ap reads_of c.in-Tests.is);
      follows = record { same_call = tests.0.same_call; same_header = tests.0.same_header; same_items = refl; stands = tests.0.stands };
      counted = ap Some tests.1 ∙ ap (λ (p : Phase). Some (next_step_number (steps_of p))) (sym c.in-Tests.is);
      there = subst (λ (p : Phase). HasStep call header (reads_of p) (next_step_number (steps_of p))) (sym c.in-Tests.is) first;
    }

pub returns-in-Begins-clause-executes : goal.returns-in-Begins-clause-executes
returns-in-Begins-clause-executes g c =
    subst (λ (p : Phase). Executes (steps_made (steps_of p)) (next_step_number (steps_of p)) 0 c.args.executions.now c.args.executions.now) (sym c.in-Tests.is) (executes_none 0 c.args.executions.now)

pub returns-in-Stops-clause-executes : goal.returns-in-Stops-clause-executes
returns-in-Stops-clause-executes g c =
    subst (λ (p : Phase). GoExecutes c.args.call.now c.args.context.now.header.now (reads_of p) (steps_of p) (Stops c.in-Stops.ran) c.args.executions.now c.args.executions.now) (sym c.in-Tests.is)
    (tests_go c.args.call.now c.args.context.now.header.now c.in-Tests.items c.in-Stops.ran c.args.executions.now)

pub returns-in_err-running-in-Tests-clause-few : goal.returns-in_err-running-in-Tests-clause-few
returns-in_err-running-in-Tests-clause-few g c = if_err _ _ (at_most_none _ _)
