use Rattle.mv_parts.proofs.SerialCalls.{calls_lead_on, every_interleaving_of_calls_is_serial_lem}
use Rattle.mv_parts.proofs.serial_calls.every_interleaving_of_calls_is_serial.Goals as goal

pub returns-clause-serial : goal.returns-clause-serial
returns-clause-serial c = every_interleaving_of_calls_is_serial_lem c.order_theorem.ensures.serial

pub returns-clause-leads : goal.returns-clause-leads
returns-clause-leads c = calls_lead_on
