use Rattle.std.proofs.Common.{IfOk, subst}
use Rattle.avm_input.specs.JsonCommandLine.{json_command_in}
use Rattle.avm_bytes.specs.Shown.{answer_shown}
use Rattle.avm_bytes.specs.WordAnswers.{IsJsonAnswer}
use Rattle.avm_bytes.proofs.words.JsonWordsQuestion.answer.Goals as goal

pub returns : goal.returns
returns g c =
    subst (λ words. IfOk c.json_answer_with.result (λ answer. IsJsonAnswer (json_command_in words) c.args.self.now.input.now (answer_shown answer))) c.in_ok-words.ensures
    (rw c.as_slice.ensures.value at c.json_answer_with.ensures)
