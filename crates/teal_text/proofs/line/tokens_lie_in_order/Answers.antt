use Rattle.teal_text.proofs.TokenOrder.{in_order}
use Rattle.teal_text.proofs.line.tokens_lie_in_order.Goals as goal

pub returns : goal.returns
returns c = in_order
