use Rattle.std.proofs.Common.{subst}
use Rattle.avm_stepper.proofs.OnlyFaults.{IsFault, ended_by_fault}
use Rattle.avm_stepper.proofs.stepping.try_step.Goals as goal

pub unreachable-requires : goal.unreachable-requires
unreachable-requires g c =
    subst IsFault c.in-Ok-Ended-Approved.field-0-0-is
    (ended_by_fault c.args.run.now c.step_one.new.self c.in-Ok-Ended-Approved.field-0 c.in-Ok-Ended-Approved.field-0-0 c.requires.before c.in-Ok-Ended-Approved.ensures.steps c.in-Ok-Ended-Approved.field-0-is)

pub unreachable-requires-in-Ok-Ended-Rejected : goal.unreachable-requires-in-Ok-Ended-Rejected
unreachable-requires-in-Ok-Ended-Rejected g c =
    subst IsFault c.in-Ok-Ended-Rejected.field-0-0-is
    (ended_by_fault c.args.run.now c.step_one.new.self c.in-Ok-Ended-Rejected.field-0 c.in-Ok-Ended-Rejected.field-0-0 c.requires.before c.in-Ok-Ended-Rejected.ensures.steps c.in-Ok-Ended-Rejected.field-0-is)
