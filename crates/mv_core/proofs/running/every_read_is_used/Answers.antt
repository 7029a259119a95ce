use Rattle.mv_core.proofs.Runs.{every_read_is_used_lem}
use Rattle.mv_core.proofs.running.every_read_is_used.Goals as goal

pub returns : goal.returns
returns c = every_read_is_used_lem
