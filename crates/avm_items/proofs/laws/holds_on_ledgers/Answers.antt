use Rattle.avm_items.proofs.Questions as questions
use Rattle.avm_items.proofs.laws.holds_on_ledgers.Goals as goal

pub returns : goal.returns
returns g c = questions.result_on_ledger
