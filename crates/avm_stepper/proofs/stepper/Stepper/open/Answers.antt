use Rattle.std.proofs.Common.{subst}
use Rattle.avm_stepper.specs.Starting.{BeginsOver}
use Rattle.avm_stepper.proofs.Beginning.{nothing_opened, opened, starts_at_first}
use Rattle.avm_stepper.proofs.Shows.{prepared_begun}
use Rattle.avm_stepper.proofs.stepper.Stepper.open.Goals as goal

pub start_over-requires-clause-tests : goal.start_over-requires-clause-tests
start_over-requires-clause-tests g c κs within = starts_at_first c.args.ledger c.args.call.now c.args.header.now c.in_ok-run.run' c.in_ok-run.ensures

pub invariant_of-result : goal.invariant_of-result
invariant_of-result g c =
    let begun = subst (BeginsOver c.args.ledger c.in_ok-run.run' c.start_over.new.run) c.in-Ok-true.field-0-test c.in-Ok-true.ensures in (
      (opened c.args.ledger c.args.call.now c.args.header.now c.in_ok-run.run' c.start_over.new.run c.in_ok-run.ensures begun).kept,
      prepared_begun c.args.ledger c.in-Ok.prepared c.in_ok-run.run' c.start_over.new.run begun c.in-Ok.ensures,
    )

pub returns-in-Ok-clause-started : goal.returns-in-Ok-clause-started
returns-in-Ok-clause-started g c =
    (opened c.args.ledger c.args.call.now c.args.header.now c.in_ok-run.run' c.start_over.new.run c.in_ok-run.ensures
    (subst (BeginsOver c.args.ledger c.in_ok-run.run' c.start_over.new.run) c.in-Ok-true.field-0-test c.in-Ok-true.ensures)).is

pub returns-in-Ok-clause-program : goal.returns-in-Ok-clause-program
returns-in-Ok-clause-program g c =
    (opened c.args.ledger c.args.call.now c.args.header.now c.in_ok-run.run' c.start_over.new.run c.in_ok-run.ensures
    (subst (BeginsOver c.args.ledger c.in_ok-run.run' c.start_over.new.run) c.in-Ok-true.field-0-test c.in-Ok-true.ensures)).program

pub returns-in-Ok-false-clause-refused : goal.returns-in-Ok-false-clause-refused
returns-in-Ok-false-clause-refused g c =
    nothing_opened c.args.ledger c.args.call.now c.args.header.now c.in_ok-run.run' c.in_ok-run.ensures
    (subst (BeginsOver c.args.ledger c.in_ok-run.run' c.start_over.new.run) c.in-Ok-false.field-0-test c.in-Ok-false.ensures)
