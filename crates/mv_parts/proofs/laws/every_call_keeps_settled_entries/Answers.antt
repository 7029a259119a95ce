use Rattle.mv_parts.proofs.Settled.{every_call_keeps_settled_entries}
use Rattle.mv_parts.proofs.laws.every_call_keeps_settled_entries.Goals as goal

pub returns : goal.returns
returns c j event k live = every_call_keeps_settled_entries j event k live
