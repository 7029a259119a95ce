use Rattle.avm_commands.proofs.Replies.{asm_reply-not_utf8, asm_reply-utf8}
use Rattle.avm_commands.proofs.asm.asm_reply.Goals as goal

pub returns-in_default : goal.returns-in_default
returns-in_default c = rw (asm_reply-not_utf8 c.args.input.now c.in_default.ensures.cases.0) c.input_refusal.ensures

pub returns-in-Ok-assemble : goal.returns-in-Ok-assemble
returns-in-Ok-assemble c =
    rw (
      asm_reply-utf8 c.args.input.now c.in-Ok.text.now _ c.in-Ok.ensures.cases.1 c.in-Ok.ensures.cases.0
          c.in-Ok-assemble.ensures,
      ← c.as_slice.ensures.value,
    ) c.program_reply.ensures

pub returns-in-Err-Fault : goal.returns-in-Err-Fault
returns-in-Err-Fault c =
    rw (asm_reply-utf8 c.args.input.now c.in-Ok.text.now _ c.in-Ok.ensures.cases.1 c.in-Ok.ensures.cases.0
    (rw c.in-Err-Fault.field-0-is at c.in-Err-Fault.ensures)) c.fault_reply.ensures
