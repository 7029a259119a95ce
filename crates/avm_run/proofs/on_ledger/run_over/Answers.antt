use Rattle.std.proofs.Common.{[], sym, subst, arith}
use Rattle.avm_items.specs.Items.{ItemMap, value_in}
use Rattle.avm_items.specs.LedgerItems.{at}
use Rattle.avm_items.specs.Locality.{LookAgrees}
use Rattle.avm_items.proofs.OneMore.{agrees_after}
use Rattle.avm_items.proofs.Questions.{result_on_ledger}
use Rattle.avm_call.specs.Calls.{call_result}
use Rattle.avm_run.specs.Progress.{reads_of}
use Rattle.avm_run.proofs.Executing.{if_err}
use Rattle.avm_run.proofs.ItemByItem.{executed_once, first_supplied, next_supplied, refused_at, refused_in}
use Rattle.avm_run.proofs.on_ledger.run_over.Goals as goal

pub loop-asking-init : goal.loop-asking-init
loop-asking-init g c =
    let call = c.args.call.now in
    let first = c.first_item-first in
    let given = first_supplied call c.args.context.now.header.now c.no_items-items.result c.in_ok-phase.phase first.result c.in_ok-value.value c.args.executions.now c.no_items-items.ensures c.fields-fields.ensures.checked (first.ensures c.args.context.now.header.now) c.supplied.ensures.programs c.in_ok-phase.ensures.supplied in
    record {
      under_way = given.under_way;
      agrees = subst (λ (items : ItemMap). LookAgrees (value_in items) (at c.args.ledger.now)) (sym given.reads)
          (agrees_after [] first.result c.in_ok-value.value (at c.args.ledger.now) (sym c.in_ok-value.ensures) (record { at = λ x v e. absurd cc }));
    }

pub loop-asking-smaller : goal.loop-asking-smaller
loop-asking-smaller g c =
    let given = next_supplied c.args.call.now c.args.context.now.header.now c.loop-asking.phase c.in-Need.asking c.in_ok-phase-in-Need.phase c.in-Need.item c.in_ok-value-in-Need.value _ _ _ c.loop-asking.invariant.under_way (rw c.in-Need.is at c.in_ok-asking.ensures.runs) (rw c.in-Need.is at c.in_ok-asking.ensures.executes) c.supplied-in-Need.ensures.programs c.in_ok-phase-in-Need.ensures.supplied in
    omega (arith, given.fewer, given.longer)

pub loop-asking-preserved : goal.loop-asking-preserved
loop-asking-preserved g c =
    let given = next_supplied c.args.call.now c.args.context.now.header.now c.loop-asking.phase c.in-Need.asking c.in_ok-phase-in-Need.phase c.in-Need.item c.in_ok-value-in-Need.value _ _ _ c.loop-asking.invariant.under_way (rw c.in-Need.is at c.in_ok-asking.ensures.runs) (rw c.in-Need.is at c.in_ok-asking.ensures.executes) c.supplied-in-Need.ensures.programs c.in_ok-phase-in-Need.ensures.supplied in
    record {
      under_way = given.under_way;
      agrees = subst (λ (more : ItemMap). LookAgrees (value_in more) (at c.args.ledger.now)) (sym given.reads)
          (agrees_after (reads_of c.loop-asking.phase) c.in-Need.item c.in_ok-value-in-Need.value (at c.args.ledger.now) (sym c.in_ok-value-in-Need.ensures) c.loop-asking.invariant.agrees);
    }

pub returns-in-Done-clause-result : goal.returns-in-Done-clause-result
returns-in-Done-clause-result g c =
    let call = c.args.call.now in
    let header = c.args.context.now.header.now in
    let ends = (rw c.in-Done.is at c.in_ok-asking.ensures.runs).run in
    sym (result_on_ledger (value_in (reads_of c.loop-asking.phase)) (at c.args.ledger.now) (call_result call header) _ c.loop-asking.invariant.agrees ends.definition)

pub returns-in-Done-clause-executes : goal.returns-in-Done-clause-executes
returns-in-Done-clause-executes g c =
    let way = c.loop-asking.invariant.under_way in
    let executes = executed_once c.args.call.now c.args.context.now.header.now c.loop-asking.phase _ _ _ _ way (rw c.in-Done.is at c.in_ok-asking.ensures.executes) in
    record { reads = reads_of c.loop-asking.phase; of_ledger = c.loop-asking.invariant.agrees; asked = way.alive.few.asked; executes = executes }

pub returns-in_err-asking-clause-few : goal.returns-in_err-asking-clause-few
returns-in_err-asking-clause-few g c =
    if_err _ _ (refused_in c.args.call.now c.args.context.now.header.now c.loop-asking.phase _ _ _ c.loop-asking.invariant.under_way c.in_err-asking.ensures.few)

pub returns-in_err-value-in-Need-clause-few : goal.returns-in_err-value-in-Need-clause-few
returns-in_err-value-in-Need-clause-few g c =
    if_err _ _ (refused_at c.args.call.now c.args.context.now.header.now c.loop-asking.phase c.in-Need.asking c.in-Need.item _ _ _ c.loop-asking.invariant.under_way (rw c.in-Need.is at c.in_ok-asking.ensures.runs) (rw c.in-Need.is at c.in_ok-asking.ensures.executes))

pub returns-in_err-phase-in-Need-clause-few : goal.returns-in_err-phase-in-Need-clause-few
returns-in_err-phase-in-Need-clause-few g c =
    if_err _ _ (refused_at c.args.call.now c.args.context.now.header.now c.loop-asking.phase c.in-Need.asking c.in-Need.item _ _ _ c.loop-asking.invariant.under_way (rw c.in-Need.is at c.in_ok-asking.ensures.runs) (rw c.in-Need.is at c.in_ok-asking.ensures.executes))
