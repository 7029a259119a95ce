use Rattle.avm_ledger.proofs.KeptOrder.{orderly}
use Rattle.avm_laws.proofs.LaterLedgers.{every_call_keeps_order, replays_keep_order}
use Rattle.avm_laws.proofs.order_laws.every_call_keeps_order.Goals as goal

pub returns-clause-call : goal.returns-clause-call
returns-clause-call c = every_call_keeps_order

pub returns-clause-calls : goal.returns-clause-calls
returns-clause-calls c = replays_keep_order

pub returns-clause-rules : goal.returns-clause-rules
returns-clause-rules c = orderly
