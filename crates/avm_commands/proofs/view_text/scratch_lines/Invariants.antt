use Rattle.std.proofs.Common.{◌≡◌, ◌++◌, map, drop}
use Rattle.avm_stepper.specs.Scratch.{places_seen}
use Rattle.avm_input.specs.Shown.{texts}
use Rattle.avm_commands.specs.ViewTexts.{scratch_text}
use Rattle.avm_commands.proofs.view_text.scratch_lines.Given as goal

abbrev pub invariant-loop-place : goal.invariant-loop-place
invariant-loop-place l = texts l.lines.items ++ map scratch_text (places_seen (drop l.place-index l.places)) ≡ map scratch_text (places_seen l.places)
