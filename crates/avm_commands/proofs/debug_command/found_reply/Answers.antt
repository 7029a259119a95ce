use Rattle.std.proofs.Common.{Err, refl}
use Rattle.std.proofs.lemmas.Result.{IfOk-weaker}
use Rattle.avm_commands.proofs.StepsMade.{found_shown}
use Rattle.avm_commands.proofs.debug_command.found_reply.Goals as goal

pub returns-in-Ok : goal.returns-in-Ok
returns-in-Ok g c = rw c.into_bytes.ensures.value (found_shown (c.args.base.now, c.args.block.now) c.args.point.number c.args.point.steps _ _ c.in-Ok.ensures.found refl)

pub returns-in-Err-Fault : goal.returns-in-Err-Fault
returns-in-Err-Fault g c =
    IfOk-weaker c.refusal_reply.result _ _
    (λ reply is. (Err c.in-Err-Fault.refusal, rw c.in-Err-Fault.field-0-is at c.in-Err-Fault.ensures.refused, is)) c.refusal_reply.ensures
