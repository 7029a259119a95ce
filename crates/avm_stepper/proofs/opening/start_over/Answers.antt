use Rattle.std.proofs.Common.{arith}
use Rattle.avm_stepper.proofs.Beginning.{StartsNext, nothing_begun, program_begun, starts_next}
use Rattle.avm_stepper.proofs.opening.start_over.Goals as goal

pub loop-item-smaller : goal.loop-item-smaller
loop-item-smaller g c =
    let next : StartsNext c.args.ledger.now c.args.run.now c.loop-item.run c.supply_from.new.run = starts_next c.args.ledger.now c.args.run.now c.loop-item.run c.try_start.new.run c.supply_from.new.run c.in_ok-try_start.field-0 c.in-Need.item c.loop-item.invariant.starts c.in_ok-try_start.ensures c.in-Need.is c.in_ok-supply_from-in-Need.ensures in
    omega (arith, next.few, next.longer)

pub loop-item-preserved : goal.loop-item-preserved
loop-item-preserved g c = record {
  starts = (starts_next c.args.ledger.now c.args.run.now c.loop-item.run c.try_start.new.run c.supply_from.new.run c.in_ok-try_start.field-0 c.in-Need.item c.loop-item.invariant.starts c.in_ok-try_start.ensures c.in-Need.is c.in_ok-supply_from-in-Need.ensures).starts;
}

pub returns-in-Program : goal.returns-in-Program
returns-in-Program g c =
    program_begun c.args.ledger.now c.args.run.now c.loop-item.run c.try_start.new.run c.in_ok-try_start.field-0 c.loop-item.invariant.starts c.in_ok-try_start.ensures c.in-Program.is

pub returns-in-Nothing : goal.returns-in-Nothing
returns-in-Nothing g c =
    nothing_begun c.args.ledger.now c.args.run.now c.loop-item.run c.try_start.new.run c.in_ok-try_start.field-0 c.loop-item.invariant.starts c.in_ok-try_start.ensures c.in-Nothing.is
