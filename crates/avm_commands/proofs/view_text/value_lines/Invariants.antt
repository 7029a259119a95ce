use Rattle.std.proofs.Common.{◌≡◌, ◌++◌, map, drop}
use Rattle.avm_input.specs.Shown.{texts}
use Rattle.avm_commands.specs.ViewTexts.{value_text}
use Rattle.avm_commands.proofs.view_text.value_lines.Given as goal

abbrev pub invariant-loop-value : goal.invariant-loop-value
invariant-loop-value l = texts l.lines.items ++ map value_text (drop l.value-index l.values) ≡ map value_text l.values
