-- Answers, without where they lie in memory.
use Rattle.avm_bytes.specs.declared.answers.Answer.{Answer as WrittenAnswer}
use Rattle.avm_bytes.specs.Answers.{Answer}

abbrev pub answer_shown : WrittenAnswer → Answer
answer_shown answer = record { status = answer.status; bytes = answer.bytes.items }
