use Rattle.std.proofs.Common.{◌-◌, Some, sym, ap, ◌∙◌, subst}
use Rattle.std.specs.Prelude.{IfErr, IfOk}
use Rattle.teal_code.specs.Limits.{most_program_bytes}
use Rattle.avm_run.specs.declared.phase.Phase.{Phase}
use Rattle.avm_run.specs.Executions.{ExecutesAtMost}
use Rattle.avm_run.specs.ExecutedSteps.{RunExecutes, steps_made}
use Rattle.avm_run.specs.Progress.{RunsTo, reads_of, steps_of}
use Rattle.avm_run.proofs.Executing.{all_from_start, at_most_none, if_err, tests_run}
use Rattle.avm_run.proofs.Leading.{stops_run}
use Rattle.avm_run.proofs.phase.run_on.Goals as goal

pub returns-in-Begins-clause-runs : goal.returns-in-Begins-clause-runs
returns-in-Begins-clause-runs g c =
    let tests = rw c.in-Begins.is at c.in_ok-running-in-Tests.ensures in
    let reads = tests.0.same_items ∙ sym (ap reads_of c.in-Tests.is) in
    subst (λ items. IfOk c.run_program.result (λ ran. RunsTo c.args.call.now c.args.context.now.header.now items ran)) reads c.run_program.ensures.runs

pub returns-in-Stops-clause-runs : goal.returns-in-Stops-clause-runs
returns-in-Stops-clause-runs g c =
    let stops = rw c.in-Stops.is at c.in_ok-running-in-Tests.ensures in
    subst (λ (p : Phase). RunsTo c.args.call.now c.args.context.now.header.now (reads_of p) c.in-Stops.ran) (sym c.in-Tests.is) (stops_run c.args.call.now c.args.context.now.header.now c.in-Tests.items c.in-Stops.ran stops)

pub returns-in-Begins-clause-executes : goal.returns-in-Begins-clause-executes
returns-in-Begins-clause-executes g c =
    let call = c.args.call.now in
    let header = c.args.context.now.header.now in
    let tests = rw c.in-Begins.is at c.in_ok-running-in-Tests.ensures in
    let first = c.in-Begins.running.value.steps in
    let from = subst (λ items. IfOk c.run_program.result (λ ran. RunExecutes call header items (Some first) ran c.args.executions.now c.run_program.new.executions)) tests.0.same_items c.run_program.ensures.executes in
    subst (λ (p : Phase). IfOk c.run_program.result (λ ran. RunExecutes call header (reads_of p) (steps_of p) ran c.args.executions.now c.run_program.new.executions)) (sym c.in-Tests.is)
    (all_from_start call header c.in-Tests.items first c.run_program.result c.args.executions.now c.run_program.new.executions tests.1 from)

pub returns-in-Begins-clause-few : goal.returns-in-Begins-clause-few
returns-in-Begins-clause-few g c =
    let tests = rw c.in-Begins.is at c.in_ok-running-in-Tests.ensures in
    let few = subst (λ n. IfErr c.run_program.result (λ _. ExecutesAtMost (most_program_bytes - n) 1 c.args.executions.now c.run_program.new.executions)) tests.1 c.run_program.ensures.few in
    subst (λ (p : Phase). IfErr c.run_program.result (λ _. ExecutesAtMost (most_program_bytes - steps_made (steps_of p)) 1 c.args.executions.now c.run_program.new.executions)) (sym c.in-Tests.is) few

pub returns-in-Stops-clause-executes : goal.returns-in-Stops-clause-executes
returns-in-Stops-clause-executes g c =
    let stops = rw c.in-Stops.is at c.in_ok-running-in-Tests.ensures in
    subst (λ (p : Phase). RunExecutes c.args.call.now c.args.context.now.header.now (reads_of p) (steps_of p) c.in-Stops.ran c.args.executions.now c.args.executions.now) (sym c.in-Tests.is)
    (tests_run c.args.call.now c.args.context.now.header.now c.in-Tests.items c.in-Stops.ran c.args.executions.now stops)

pub returns-in_err-running-in-Tests-clause-few : goal.returns-in_err-running-in-Tests-clause-few
returns-in_err-running-in-Tests-clause-few g c = if_err _ _ (at_most_none _ _)
