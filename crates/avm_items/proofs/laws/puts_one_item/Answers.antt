use Rattle.avm_items.proofs.Puts as puts
use Rattle.avm_items.proofs.laws.puts_one_item.Goals as goal

pub returns-clause-put : goal.returns-clause-put
returns-clause-put c = puts.has_what_was_put

pub returns-clause-others : goal.returns-clause-others
returns-clause-others c = puts.keeps_others

pub returns-clause-order : goal.returns-clause-order
returns-clause-order c = puts.stays_in_order
