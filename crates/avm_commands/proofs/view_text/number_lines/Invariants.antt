use Rattle.std.proofs.Common.{◌≡◌, ◌++◌, map, drop}
use Rattle.std.specs.Fmt.{decimal}
use Rattle.avm_input.specs.Shown.{texts}
use Rattle.avm_commands.proofs.view_text.number_lines.Given as goal

abbrev pub invariant-loop-number : goal.invariant-loop-number
invariant-loop-number l = texts l.lines.items ++ map decimal (drop l.number-index l.numbers) ≡ map decimal l.numbers
