use Rattle.mv_shards.proofs.Slots.{at_indexes}
use Rattle.mv_shards.proofs.held.Held.holds.Goals as goal

pub returns : goal.returns
returns c = rw (← c.self.view_is) (at_indexes c.self.inside.parts c.self.invariant.0)
