use Rattle.avm_items.proofs.Questions as questions
use Rattle.avm_items.proofs.laws.goes_on_in_parts.Goals as goal

pub returns-clause-known : goal.returns-clause-known
returns-clause-known g c = questions.answer_from-and_then

pub returns-clause-ledger : goal.returns-clause-ledger
returns-clause-ledger g c = questions.result_over-and_then
