use Rattle.avm_items.proofs.Questions as questions
use Rattle.avm_items.proofs.laws.asks_for_what_is_used.Goals as goal

pub returns : goal.returns
returns g c = questions.question_on_ledger
