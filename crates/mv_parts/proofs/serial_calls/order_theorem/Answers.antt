use Rattle.mv_parts.proofs.SerialCalls.{items_have_an_equality}
use Rattle.mv_parts.proofs.serial_calls.order_theorem.Goals as goal

pub returns-clause-equality : goal.returns-clause-equality
returns-clause-equality c = items_have_an_equality
