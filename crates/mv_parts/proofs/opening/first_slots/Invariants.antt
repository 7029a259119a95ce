use Rattle.std.specs.Arc.{arc_value}
use Rattle.mv_parts.proofs.Opens.{AreSlotsTo}
use Rattle.mv_parts.proofs.opening.first_slots.Given as goal

abbrev pub invariant-loop-index : goal.invariant-loop-index
invariant-loop-index l = AreSlotsTo (arc_value l.base) l.index l.held
