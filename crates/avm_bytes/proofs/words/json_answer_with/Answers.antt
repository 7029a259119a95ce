use Rattle.std.proofs.Common.{arith}
use Rattle.avm_bytes.proofs.CommandAnswers.{json_answered}
use Rattle.avm_bytes.proofs.words.json_answer_with.Goals as goal

pub returns : goal.returns
returns g c =
    rw c.from.ensures
    (json_answered _ c.args.input.now c.answer-status.result c.answer-status.new.writer.items (λ e. omega (arith, e, c.if-status-eq-FAILED.false))
    (rw c.new-text.ensures.items at c.answer-status.ensures.answers))
