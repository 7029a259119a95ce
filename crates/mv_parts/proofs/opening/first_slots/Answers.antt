use Rattle.std.proofs.Common.{arith}
use Rattle.std.specs.Arc.{arc_value}
use Rattle.mv_parts.proofs.Opens.{all_slots}
use Rattle.mv_parts.proofs.opening.first_slots.Goals as goal

pub returns : goal.returns
returns c = all_slots (arc_value c.args.base.now) c.loop-index.index c.loop-index.held (omega (arith, c.loop-index-test.false)) c.loop-index.invariant
