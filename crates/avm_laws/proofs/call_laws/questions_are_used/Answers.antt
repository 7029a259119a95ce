use Rattle.avm_call.proofs.AskedFor.{asked_with_answer}
use Rattle.avm_laws.proofs.ReadCalls.{asks_for_what_is_used}
use Rattle.avm_laws.proofs.call_laws.questions_are_used.Goals as goal

pub returns-clause-used : goal.returns-clause-used
returns-clause-used c = asks_for_what_is_used

pub returns-clause-answers : goal.returns-clause-answers
returns-clause-answers c = asked_with_answer
