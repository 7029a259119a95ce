use Rattle.mv_core.specs.AttemptSlots.{AreEmpty}
use Rattle.mv_core.proofs.opening.empty_slots.Given as goal

abbrev pub invariant-loop-index : goal.invariant-loop-index
invariant-loop-index l = AreEmpty l._index l.slots.items
