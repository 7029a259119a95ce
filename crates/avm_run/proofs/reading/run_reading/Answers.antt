use Rattle.std.proofs.Common.{◌≡◌, Ok, sym, subst, ◌∙◌, arith}
use Rattle.avm_items.specs.declared.call_data.CallData.{CallData}
use Rattle.avm_items.specs.Items.{ItemMap, value_in}
use Rattle.avm_items.specs.Asks.{answer_from}
use Rattle.avm_call.specs.AskedFor.{AreAskedFor}
use Rattle.avm_call.specs.Calls.{call_result}
use Rattle.avm_run.specs.Results.{CallRecord}
use Rattle.avm_run.specs.ExecutedSteps.{ExecutesOnce}
use Rattle.avm_run.specs.Progress.{reads_of}
use Rattle.avm_run.proofs.Executing.{if_err, refused_ended}
use Rattle.avm_run.proofs.ItemByItem.{executed_once, first_supplied, next_supplied, refused_at, refused_in}
use Rattle.avm_run.proofs.LiveRuns.{asked_by_end, ends_over_reads}
use Rattle.avm_run.proofs.reading.run_reading.Goals as goal

pub loop-asking-init : goal.loop-asking-init
loop-asking-init g c =
    let first = c.first_item-first in
    let given = first_supplied c.args.call.now c.args.context.now.header.now c.no_items-items.result c.in_ok-phase.phase first.result c.in_ok-value.value c.args.executions.now c.no_items-items.ensures c.fields-fields.ensures.checked (first.ensures c.args.context.now.header.now) c.supplied.ensures.programs c.in_ok-phase.ensures.supplied in
    record { under_way = given.under_way; kept = c.read.ensures }

pub loop-asking-smaller : goal.loop-asking-smaller
loop-asking-smaller g c =
    let given = next_supplied c.args.call.now c.args.context.now.header.now c.loop-asking.phase c.in-Need.asking c.in_ok-phase-in-Need.phase c.in-Need.item c.in_ok-value-in-Need.value _ _ _ c.loop-asking.invariant.under_way (rw c.in-Need.is at c.in_ok-asking.ensures.runs) (rw c.in-Need.is at c.in_ok-asking.ensures.executes) c.supplied-in-Need.ensures.programs c.in_ok-phase-in-Need.ensures.supplied in
    omega (arith, given.fewer, given.longer)

pub loop-asking-preserved : goal.loop-asking-preserved
loop-asking-preserved g c =
    let given = next_supplied c.args.call.now c.args.context.now.header.now c.loop-asking.phase c.in-Need.asking c.in_ok-phase-in-Need.phase c.in-Need.item c.in_ok-value-in-Need.value _ _ _ c.loop-asking.invariant.under_way (rw c.in-Need.is at c.in_ok-asking.ensures.runs) (rw c.in-Need.is at c.in_ok-asking.ensures.executes) c.supplied-in-Need.ensures.programs c.in_ok-phase-in-Need.ensures.supplied in
    record { under_way = given.under_way; kept = c.read-in-Need.ensures ∙ c.loop-asking.invariant.kept }

pub finished-finished-requires-clause-result : goal.finished-finished-requires-clause-result
finished-finished-requires-clause-result g c =
    let closed = c.in-Done.closed in
    subst (λ (call : CallData). answer_from (value_in closed.reads) (call_result call c.args.context.now.header.now) ≡ Ok (closed.outcome, closed.writes)) (sym c.in_ok-clone-in-Done.ensures)
    (ends_over_reads c.args.call.now c.args.context.now.header.now (reads_of c.loop-asking.phase) closed (rw c.in-Done.is at c.in_ok-asking.ensures.runs).run)

pub finished-finished-requires-clause-asked : goal.finished-finished-requires-clause-asked
finished-finished-requires-clause-asked g c =
    let closed = c.in-Done.closed in
    subst (λ (call : CallData). AreAskedFor closed.reads call c.args.context.now.header.now) (sym c.in_ok-clone-in-Done.ensures)
    (asked_by_end c.args.call.now c.args.context.now.header.now (reads_of c.loop-asking.phase) closed c.loop-asking.invariant.under_way.alive.few (rw c.in-Done.is at c.in_ok-asking.ensures.runs).run)

pub returns-in_err-asking-clause-few : goal.returns-in_err-asking-clause-few
returns-in_err-asking-clause-few g c =
    if_err _ _ (refused_in c.args.call.now c.args.context.now.header.now c.loop-asking.phase _ _ _ c.loop-asking.invariant.under_way c.in_err-asking.ensures.few)

pub returns-in_err-value-in-Need-clause-few : goal.returns-in_err-value-in-Need-clause-few
returns-in_err-value-in-Need-clause-few g c =
    if_err _ _ (refused_at c.args.call.now c.args.context.now.header.now c.loop-asking.phase c.in-Need.asking c.in-Need.item _ _ _ c.loop-asking.invariant.under_way (rw c.in-Need.is at c.in_ok-asking.ensures.runs) (rw c.in-Need.is at c.in_ok-asking.ensures.executes))

pub returns-in_err-phase-in-Need-clause-few : goal.returns-in_err-phase-in-Need-clause-few
returns-in_err-phase-in-Need-clause-few g c =
    if_err _ _ (refused_at c.args.call.now c.args.context.now.header.now c.loop-asking.phase c.in-Need.asking c.in-Need.item _ _ _ c.loop-asking.invariant.under_way (rw c.in-Need.is at c.in_ok-asking.ensures.runs) (rw c.in-Need.is at c.in_ok-asking.ensures.executes))

pub returns-in_err-clone-in-Done-clause-few : goal.returns-in_err-clone-in-Done-clause-few
returns-in_err-clone-in-Done-clause-few g c =
    let once = executed_once c.args.call.now c.args.context.now.header.now c.loop-asking.phase _ _ _ _ c.loop-asking.invariant.under_way (rw c.in-Done.is at c.in_ok-asking.ensures.executes) in
    if_err _ _ (refused_ended c.args.call.now c.args.context.now.header.now (reads_of c.loop-asking.phase) _ _ _ once)

pub returns-in-Done-clause-executes : goal.returns-in-Done-clause-executes
returns-in-Done-clause-executes g c =
    let call = c.args.call.now in
    let header = c.args.context.now.header.now in
    let before = c.args.executions.now in
    let after = c.run_on.new.executions in
    let items = reads_of c.loop-asking.phase in
    let ends = (rw c.in-Done.is at c.in_ok-asking.ensures.runs).run in
    let once = executed_once call header c.loop-asking.phase _ before _ after c.loop-asking.invariant.under_way (rw c.in-Done.is at c.in_ok-asking.ensures.executes) in
    let made = c.finished-finished in
    subst (λ (f : CallRecord). ExecutesOnce call header f.reads f.outcome before after) (sym c.fitted.ensures)
    (subst (λ (reads : ItemMap). ExecutesOnce call header reads made.result.outcome before after) (sym (made.ensures.same.2 ∙ ends.same_reads))
    (subst (λ o. ExecutesOnce call header items o before after) (sym made.ensures.outcome) once))
