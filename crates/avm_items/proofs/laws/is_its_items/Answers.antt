use Rattle.avm_items.proofs.Puts as puts
use Rattle.avm_items.proofs.laws.is_its_items.Goals as goal

pub returns : goal.returns
returns c = puts.is_its_items
