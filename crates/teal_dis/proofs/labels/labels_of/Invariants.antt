use Rattle.teal_dis.proofs.Labelling.{LabelsOn}
use Rattle.teal_dis.proofs.labels.labels_of.Given as goal

abbrev pub invariant-loop-mark : goal.invariant-loop-mark
invariant-loop-mark l = LabelsOn l.program.placed l.labels.items l.mark-index l.last
