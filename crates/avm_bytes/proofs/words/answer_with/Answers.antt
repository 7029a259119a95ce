use Rattle.avm_bytes.proofs.CommandAnswers.{command_answered}
use Rattle.avm_bytes.proofs.words.answer_with.Goals as goal

pub returns : goal.returns
returns g c =
    rw c.from.ensures
    (command_answered _ c.args.input.now c.in-Some.status c.answer.new.writer.items c.in-Some.status-test.1 c.in-Some.ensures.other
    (rw c.new-text.ensures.items at c.in-Some.ensures.answers))
