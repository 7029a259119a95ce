use Rattle.mv_parts.proofs.LookupsAfter.{calls_leave_lookups}
use Rattle.mv_parts.proofs.serial_calls.calls_leave_lookups.Goals as goal

pub returns : goal.returns
returns c = calls_leave_lookups
