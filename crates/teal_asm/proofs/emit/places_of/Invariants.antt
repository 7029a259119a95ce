use Rattle.teal_asm.specs.Instructions.{all_meant}
use Rattle.teal_asm.proofs.Emitting.{PlacesSoFar}
use Rattle.teal_asm.proofs.emit.places_of.Given as goal

abbrev pub invariant-loop-instruction : goal.invariant-loop-instruction
invariant-loop-instruction l = PlacesSoFar (all_meant l.instructions) l.instruction-index l.places.items l.place
