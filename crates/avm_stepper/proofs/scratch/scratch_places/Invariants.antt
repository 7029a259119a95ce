use Rattle.std.proofs.Common.{◌≡◌, ◌++◌, drop}
use Rattle.avm_stepper.specs.Scratch.{places_seen, set_places}
use Rattle.avm_stepper.proofs.scratch.scratch_places.Given as goal

-- the places so far, and those that are left
abbrev pub invariant-loop-place : goal.invariant-loop-place
invariant-loop-place l = places_seen l.places.items ++ set_places l.place (drop l.place l.cpu.scratch) ≡ set_places 0 l.cpu.scratch
