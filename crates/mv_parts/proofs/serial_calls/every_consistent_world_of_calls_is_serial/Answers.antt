use Rattle.mv_parts.proofs.SerialCalls.{every_consistent_world_of_calls_is_serial_lem}
use Rattle.mv_parts.proofs.serial_calls.every_consistent_world_of_calls_is_serial.Goals as goal

pub returns : goal.returns
returns c = every_consistent_world_of_calls_is_serial_lem c.every_consistent_world_is_serial.ensures.serial
