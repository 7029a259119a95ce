use Rattle.std.proofs.Common.{◌-◌, length}
use Rattle.teal_dis.proofs.Labelling.{MarksOn}
use Rattle.teal_dis.proofs.labels.marks_of.Given as goal

abbrev pub invariant-loop-placed : goal.invariant-loop-placed
invariant-loop-placed l = MarksOn l.program.placed l.marks.items l.number

abbrev pub decreases-loop-placed : goal.decreases-loop-placed
decreases-loop-placed l = length l.program.placed - l.number
