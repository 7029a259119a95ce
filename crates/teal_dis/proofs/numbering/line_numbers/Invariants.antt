use Rattle.teal_dis.proofs.LineNumbers.{NumbersOn}
use Rattle.teal_dis.proofs.numbering.line_numbers.Given as goal

abbrev pub invariant-loop-mark : goal.invariant-loop-mark
invariant-loop-mark l = NumbersOn l.program.placed l.numbers.items l.mark-index l.lines
