use Rattle.std.proofs.Common.{ap, sym, ◌∙◌, Some, arith}
use Rattle.teal_dis.proofs.Labelling.{marks_target, far_branch, no_branch, all_marks, past}
use Rattle.teal_dis.proofs.labels.marks_of.Goals as goal
use Rattle.teal_dis.proofs.labels.marks_of.Goals.{in-Some-target+then-target-len, in-Some-target+else-target-len, in_default-target}

pub loop-placed-preserved : goal.loop-placed-preserved
loop-placed-preserved c = elim c.match-placed-2.branch [
  | in-Some-target+then-target-len w ↦ marks_target c.args.program.now.placed c.loop-placed.marks.items c.match-placed-2.marks.items c.loop-placed.number w.from-target.result c.in-Some.placed.now c.loop-placed.invariant (sym c.in-Some.ensures)
      (w.in-Some-target.is ∙ ap (λ n. Some n) (sym w.from-target.ensures)) (omega arith) (ap (λ v. v.items) w.marks-is)
  | in-Some-target+else-target-len w ↦ rw w.marks-is (far_branch c.args.program.now.placed c.loop-placed.marks.items c.loop-placed.number w.from-target.result c.in-Some.placed.now c.loop-placed.invariant (sym c.in-Some.ensures)
      (w.in-Some-target.is ∙ ap (λ n. Some n) (sym w.from-target.ensures)) (omega arith))
  | in_default-target w ↦ rw w.marks-is (no_branch c.args.program.now.placed c.loop-placed.marks.items c.loop-placed.number c.in-Some.placed.now c.loop-placed.invariant (sym c.in-Some.ensures) w.in_default-target.is)
]

pub returns : goal.returns
returns c = all_marks c.args.program.now.placed c.loop-placed.marks.items c.loop-placed.number c.loop-placed.invariant (past c.args.program.now.placed c.loop-placed.number (sym c.in_default.ensures))
