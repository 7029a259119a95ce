use Rattle.std.proofs.Common.{inr}
use Rattle.avm_input.specs.Shown.{reply_shown}
use Rattle.json_commands.proofs.commands.answer_to.Goals as goal

pub returns-in-Ok-clause-answers : goal.returns-in-Ok-clause-answers
returns-in-Ok-clause-answers g c =
    rw c.in-Some.is (λ wrote. (reply_shown c.in-Ok.reply, c.in-Ok.ensures, rw c.as_slice.ensures.value at (c.write_reply-in-Ok.ensures.written wrote)))

pub returns-in-Ok-clause-fails : goal.returns-in-Ok-clause-fails
returns-in-Ok-clause-fails g c =
    rw c.in-Some.is (λ failed. inr (reply_shown c.in-Ok.reply, c.in-Ok.ensures, rw c.as_slice.ensures.value at c.write_reply-in-Ok.ensures.begun))
