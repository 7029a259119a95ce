use Rattle.std.proofs.Common.{◌≡◌, ◌++◌, drop}
use Rattle.std.specs.String.{string_bytes}
use Rattle.avm_input.specs.Shown.{texts}
use Rattle.avm_commands.specs.ViewTexts.{lines_text}
use Rattle.avm_commands.proofs.view_text.push_lines.Given as goal

abbrev pub invariant-loop-line : goal.invariant-loop-line
invariant-loop-line l = string_bytes l.text ++ lines_text (texts (drop l.line-index l.lines)) ≡ string_bytes l.initial.text ++ lines_text (texts l.lines)
