use Rattle.std.proofs.Common.{arith}
use Rattle.avm_stepper.proofs.Supplied.{SuppliedNext, supplied_next, moved_on, faulted_on}
use Rattle.avm_stepper.proofs.stepping.step_over.Goals as goal

pub loop-fault-smaller : goal.loop-fault-smaller
loop-fault-smaller g c =
    let next : SuppliedNext c.args.ledger.now c.args.run.now c.loop-fault.run c.supply_from.new.run = supplied_next c.args.ledger.now c.args.run.now c.loop-fault.run c.try_step.new.run c.supply_from.new.run c.in_ok-try_step.field-0 c.in-Need.item c.loop-fault.invariant.goes_on c.in_ok-try_step.ensures c.in-Need.is c.in_ok-supply_from-in-Need.ensures in
    omega (arith, next.few, next.longer)

pub loop-fault-preserved : goal.loop-fault-preserved
loop-fault-preserved g c = record {
  goes_on = (supplied_next c.args.ledger.now c.args.run.now c.loop-fault.run c.try_step.new.run c.supply_from.new.run c.in_ok-try_step.field-0 c.in-Need.item c.loop-fault.invariant.goes_on c.in_ok-try_step.ensures c.in-Need.is c.in_ok-supply_from-in-Need.ensures).goes_on;
}

pub returns-in-Moved : goal.returns-in-Moved
returns-in-Moved g c = moved_on c.args.ledger.now c.args.run.now c.loop-fault.run c.try_step.new.run c.in_ok-try_step.field-0 c.loop-fault.invariant.goes_on c.in_ok-try_step.ensures c.in-Moved.is

pub returns-in-Faulted : goal.returns-in-Faulted
returns-in-Faulted g c =
    faulted_on c.args.ledger.now c.args.run.now c.loop-fault.run c.try_step.new.run c.in_ok-try_step.field-0 c.in-Faulted.fault c.loop-fault.invariant.goes_on c.in_ok-try_step.ensures c.in-Faulted.is
