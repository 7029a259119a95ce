use Rattle.avm_items.proofs.Questions as questions
use Rattle.avm_items.proofs.laws.writes_come_first.Goals as goal

pub returns : goal.returns
returns g c = questions.answer_from-remaining
