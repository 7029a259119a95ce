use Rattle.avm_items.proofs.Puts as puts
use Rattle.avm_items.proofs.laws.puts_many_items.Goals as goal

pub returns : goal.returns
returns c = puts.has_what_was_put_last
