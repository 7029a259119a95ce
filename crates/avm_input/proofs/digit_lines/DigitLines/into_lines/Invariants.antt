use Rattle.std.proofs.Common.{◌≡◌, ◌++◌, length}
use Rattle.avm_input.specs.Lines.{lines_shown}
use Rattle.avm_input.proofs.digit_lines.DigitLines.into_lines.Given as goal

abbrev pub invariant-loop-line : goal.invariant-loop-line
invariant-loop-line l = lines_shown l.lines.items ++ l.self ≡ l.initial.self

abbrev pub decreases-loop-line : goal.decreases-loop-line
decreases-loop-line l = length l.self
