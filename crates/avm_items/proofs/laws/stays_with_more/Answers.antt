use Rattle.avm_items.proofs.Questions as questions
use Rattle.avm_items.proofs.laws.stays_with_more.Goals as goal

pub returns : goal.returns
returns g c = questions.stays_with_more
