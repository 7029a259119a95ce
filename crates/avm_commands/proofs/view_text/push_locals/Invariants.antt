use Rattle.std.proofs.Common.{◌≡◌, ◌++◌, map, drop}
use Rattle.avm_stepper.specs.Changes.{local_seen}
use Rattle.avm_input.specs.Shown.{texts}
use Rattle.avm_commands.specs.ViewTexts.{local_text}
use Rattle.avm_commands.proofs.view_text.push_locals.Given as goal

abbrev pub invariant-loop-change : goal.invariant-loop-change
invariant-loop-change l = texts l.lines.items ++ map local_text (local_seen (drop l.change-index l.changes)) ≡ texts l.initial.lines.items ++ map local_text (local_seen l.changes)
