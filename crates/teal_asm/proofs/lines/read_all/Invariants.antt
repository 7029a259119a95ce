use Rattle.std.proofs.Common.{◌≡◌}
use Rattle.teal_asm.specs.Reading.{all_tokens}
use Rattle.teal_asm.proofs.lines.read_all.Given as goal

abbrev pub invariant-loop-line : goal.invariant-loop-line
invariant-loop-line l = all_tokens l.lines.lines ≡ all_tokens l.fn.lines.lines

abbrev pub decreases-loop-line : goal.decreases-loop-line
decreases-loop-line l = l.lines.left
