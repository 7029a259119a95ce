use Rattle.std.proofs.Common.{◌≡◌, ◌++◌, drop, map}
use Rattle.json.specs.Tree.{items_tokens, json_tokens}
use Rattle.avm_stepper.specs.Scratch.{places_seen}
use Rattle.json_views.specs.Documents.{array_of, items_of}
use Rattle.json_views.specs.States.{shown_value}
use Rattle.json_views.specs.MachineStates.{filled}
use Rattle.json_views.proofs.machine.put_scratch.Given as goal

-- what is written, and the places that are left from the next one on, are the array
abbrev pub invariant-loop-place : goal.invariant-loop-place
invariant-loop-place l = l.out ++ items_tokens (items_of (map shown_value (filled l.next (places_seen (drop l.place-index l.places))))) ≡ l.fn.out ++ json_tokens (array_of shown_value (filled 0 (places_seen l.places)))
