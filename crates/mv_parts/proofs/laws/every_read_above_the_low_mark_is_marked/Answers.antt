use Rattle.mv_parts.proofs.Agreeing.{every_read_above_the_low_mark_is_marked}
use Rattle.mv_parts.proofs.laws.every_read_above_the_low_mark_is_marked.Goals as goal

pub returns : goal.returns
returns c j s k = every_read_above_the_low_mark_is_marked j s k
