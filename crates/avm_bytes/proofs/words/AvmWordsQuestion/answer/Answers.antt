use Rattle.std.proofs.Common.{IfOk, subst}
use Rattle.avm_input.specs.CommandLine.{command_in}
use Rattle.avm_bytes.specs.Shown.{answer_shown}
use Rattle.avm_bytes.specs.WordAnswers.{IsCommandAnswer}
use Rattle.avm_bytes.proofs.words.AvmWordsQuestion.answer.Goals as goal

pub returns : goal.returns
returns g c =
    subst (λ words. IfOk c.answer_with.result (λ answer. IsCommandAnswer (command_in words) c.args.self.now.input.now (answer_shown answer))) c.in_ok-words.ensures
    (rw c.as_slice.ensures.value at c.answer_with.ensures)
