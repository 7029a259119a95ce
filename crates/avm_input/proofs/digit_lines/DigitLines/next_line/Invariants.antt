use Rattle.std.proofs.Common.{◌≡◌, ◌+◌, ◌<◌, ◌^◌, length}
use Rattle.std.specs.Str.Lines.{lines}
use Rattle.avm_input.specs.DigitLines.{lines_after}
use Rattle.avm_input.proofs.digit_lines.DigitLines.next_line.Given as goal

abbrev pub invariant-loop-self : goal.invariant-loop-self
invariant-loop-self l =
    (lines_after l.initial.self-inside.before (lines l.initial.self-inside.rest.now) ≡ lines_after l.self-inside.before (lines l.self-inside.rest.now))
    × (l.self-inside.before + length l.self-inside.rest.now < 2 ^ 64)

abbrev pub decreases-loop-self : goal.decreases-loop-self
decreases-loop-self l = length l.self-inside.rest.now
