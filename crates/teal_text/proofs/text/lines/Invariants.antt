use Rattle.std.proofs.Common.{◌≡◌}
use Rattle.teal_text.proofs.LineReading.{with_lines}
use Rattle.teal_text.specs.Lines.{lines_of, views}
use Rattle.teal_text.proofs.text.lines.Given as goal

abbrev pub invariant-loop-lines : goal.invariant-loop-lines
invariant-loop-lines l = lines_of l.text ≡ with_lines (views l.lines.items) l.unread.lines

abbrev pub decreases-loop-lines : goal.decreases-loop-lines
decreases-loop-lines l = l.unread.left
