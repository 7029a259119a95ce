use Rattle.avm_rule_laws.proofs.AnyOrder.{any_order}
use Rattle.avm_rule_laws.proofs.ledger_laws.order_does_not_matter.Goals as goal

pub returns : goal.returns
returns c = any_order
