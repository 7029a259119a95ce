use Rattle.std.proofs.Common.{◌≡◌, ◌∙◌, Err, ap, subst, arith}
use Rattle.std.proofs.lemmas.Result.{err_from_is_err_and}
use Rattle.teal_value.specs.declared.failure.Failure.TheVariants as failure
use Rattle.avm_stepper.specs.declared.step_fault.StepFault.TheVariants.{Ended}
use Rattle.avm_stepper.specs.DebugSteps.{StepsTo}
use Rattle.avm_commands.specs.DebugRuns.{HasCome}
use Rattle.avm_commands.proofs.StepsMade.{come_ended, come_first, come_more}
use Rattle.avm_commands.proofs.debug_command.stepper_at.Goals as goal

pub returns-in_err-stepper-clause-refused : goal.returns-in_err-stepper-clause-refused
returns-in_err-stepper-clause-refused g c =
    let p = err_from_is_err_and c.from_residual.result c.from_residual.ensures.1 in
    rw (p.1, p.2) (c.in_err-stepper.ensures.refused c.args.steps)

pub loop-step-init : goal.loop-step-init
loop-step-init g c = record { come = come_first c.args.base.now c.args.block.now c.args.entry _ c.in_ok-stepper.ensures.opened }

pub loop-step-preserved : goal.loop-step-preserved
loop-step-preserved g c = record { come = come_more c.args.base.now c.args.block.now c.args.entry c.loop-step._step c.loop-step.stepper c.step.new.self c.loop-step.invariant.come c.in-Ok.ensures }

pub returns-in-Err-Fault-Ended-clause-refused : goal.returns-in-Err-Fault-Ended-clause-refused
returns-in-Err-Fault-Ended-clause-refused g c =
    let now = c.loop-step.stepper in
    let after = c.step.new.self in
    let fault : c.in-Err-Fault-Ended.field-0-0 ≡ Ended = rw c.in-Err-Fault-Ended.field-0-is at c.in-Err-Fault-Ended.field-0-0-is in
    let answer = c.in-Err-Fault-Ended.field-0-is ∙ ap (λ f. failure.Fault f) fault in
    let refused = subst (λ e. StepsTo now after (Err e)) answer c.in-Err-Fault-Ended.ensures in
    come_ended c.args.base.now c.args.block.now c.args.entry c.loop-step._step c.args.steps now after c.loop-step.invariant.come c.loop-step-test.true refused

pub returns-clause-come : goal.returns-clause-come
returns-clause-come g c =
    let all : c.loop-step._step ≡ c.args.steps = omega (arith, c.loop-step-test.false, c.loop-step.auto._step-end) in
    subst (λ n. HasCome c.args.base.now c.args.block.now c.args.entry n c.loop-step.stepper) all c.loop-step.invariant.come
