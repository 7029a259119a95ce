use Rattle.std.proofs.Common.{Err, None, Ok, Option, Some, sym, ap, subst, ◌∙◌}
use Rattle.teal_value.specs.declared.failure.Failure.TheVariants as failure
use Rattle.avm_stepper.specs.declared.step_fault.StepFault.TheVariants as fault
use Rattle.avm_stepper.specs.Debugging.{Debugged}
use Rattle.avm_stepper.specs.DebugRuns.{IsKeptDebug, IsPreparedFor, seen}
use Rattle.avm_stepper.specs.DebugSteps.{StepsTo}
use Rattle.avm_stepper.proofs.Moving.{comes_over, ends_over}
use Rattle.avm_stepper.proofs.Shows.{prepared_stays}
use Rattle.avm_stepper.proofs.stepper.Stepper.step.Goals as goal

pub step_over-requires-clause-stands : goal.step_over-requires-clause-stands
step_over-requires-clause-stands g c κs within =
    let kept = subst (IsKeptDebug c.self.inside.ledger c.self.inside.fault) (sym c.take.ensures.value ∙ c.in-Some.is) c.self.invariant.0 in
    (comes_over c.self.inside.ledger c.self.inside.fault c.in-Some.run' kept c.if-not-comes_next.ensures).goes_on

pub returns-then-not-comes_next : goal.returns-then-not-comes_next
returns-then-not-comes_next g c =
    let run = sym c.take.ensures.value ∙ c.in-Some.is in
    let kept = subst (IsKeptDebug c.self.inside.ledger c.self.inside.fault) run c.self.invariant.0 in
    let old = sym c.self.view_is ∙ ap (seen c.self.inside.ledger c.self.inside.fault) run in
    subst (λ (m : Option Debugged). StepsTo m (seen c.self.inside.ledger c.self.inside.fault (Some c.in-Some.run')) (Err (failure.Fault fault.Ended))) (sym old)
    (ends_over c.self.inside.ledger c.self.inside.fault c.in-Some.run' kept c.if-not-comes_next.ensures)

pub invariant_of-self-in-Ok : goal.invariant_of-self-in-Ok
invariant_of-self-in-Ok g c =
    let run = sym c.take.ensures.value ∙ c.in-Some.is in
    let kept = subst (IsKeptDebug c.self.inside.ledger c.self.inside.fault) run c.self.invariant.0 in
    let prepared = subst (IsPreparedFor c.self.inside.ledger c.self.inside.prepared) run c.self.invariant.1 in (
      ((comes_over c.self.inside.ledger c.self.inside.fault c.in-Some.run' kept c.if-not-comes_next.ensures).made c.step_over.new.run c.in-Ok.fault c.in-Ok.ensures).0,
      prepared_stays c.self.inside.ledger c.self.inside.prepared c.in-Some.run' c.step_over.new.run c.in-Ok.fault c.in-Ok.ensures prepared,
    )

pub returns-in-Ok : goal.returns-in-Ok
returns-in-Ok g c =
    let run = sym c.take.ensures.value ∙ c.in-Some.is in
    let kept = subst (IsKeptDebug c.self.inside.ledger c.self.inside.fault) run c.self.invariant.0 in
    let old = sym c.self.view_is ∙ ap (seen c.self.inside.ledger c.self.inside.fault) run in
    subst (λ (m : Option Debugged). StepsTo m (seen c.self.inside.ledger c.in-Ok.fault (Some c.step_over.new.run)) (Ok tt)) (sym old)
    ((comes_over c.self.inside.ledger c.self.inside.fault c.in-Some.run' kept c.if-not-comes_next.ensures).made c.step_over.new.run c.in-Ok.fault c.in-Ok.ensures).1

pub returns-in-Err : goal.returns-in-Err
returns-in-Err g c =
    let run = sym c.take.ensures.value ∙ c.in-Some.is in
    let kept = subst (IsKeptDebug c.self.inside.ledger c.self.inside.fault) run c.self.invariant.0 in
    let old = sym c.self.view_is ∙ ap (seen c.self.inside.ledger c.self.inside.fault) run in
    rw c.take.ensures.after (subst (λ (m : Option Debugged). StepsTo m None (Err failure.Memory)) (sym old) (comes_over c.self.inside.ledger c.self.inside.fault c.in-Some.run' kept c.if-not-comes_next.ensures).refused)
