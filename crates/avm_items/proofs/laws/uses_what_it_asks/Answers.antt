use Rattle.avm_items.proofs.Questions as questions
use Rattle.avm_items.proofs.laws.uses_what_it_asks.Goals as goal

pub returns : goal.returns
returns g c = questions.alike_results
