use Rattle.std.proofs.Common.{◌≡◌, ◌++◌, map, drop}
use Rattle.avm_stepper.specs.Changes.{changes_seen}
use Rattle.avm_input.specs.Shown.{texts}
use Rattle.avm_commands.specs.ViewTexts.{global_text}
use Rattle.avm_commands.proofs.view_text.push_globals.Given as goal

abbrev pub invariant-loop-change : goal.invariant-loop-change
invariant-loop-change l = texts l.lines.items ++ map global_text (changes_seen (drop l.change-index l.changes)) ≡ texts l.initial.lines.items ++ map global_text (changes_seen l.changes)
