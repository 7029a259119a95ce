use Rattle.std.proofs.Common.{◌≡◌}
use Rattle.teal_asm.specs.Reading.{line_total, unread_meaning}
use Rattle.teal_asm.proofs.lines.first_line.Given as goal

abbrev pub invariant-loop-line : goal.invariant-loop-line
invariant-loop-line l = record {
  text : l.lines.text ≡ l.fn.lines.text;
  meaning : unread_meaning l.lines ≡ unread_meaning l.fn.lines;
  total : line_total l.lines ≡ line_total l.fn.lines;
}

abbrev pub decreases-loop-line : goal.decreases-loop-line
decreases-loop-line l = l.lines.left
