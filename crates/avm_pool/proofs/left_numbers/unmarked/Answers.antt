use Rattle.std.proofs.Common.{arith, false}
use Rattle.std.proofs.lemmas.Grind.{common_steps}
use Rattle.avm_pool.proofs.Marks.{marked_not_left, unmarked_left}
use Rattle.avm_pool.proofs.left_numbers.unmarked.Goals as goal
use Rattle.avm_pool.proofs.left_numbers.unmarked.Goals.{then-not-marks-below+in_ok-push, else-not-marks-below}

pub loop-below-preserved : goal.loop-below-preserved
loop-below-preserved c =
    let xs = c.args.numbers.now in
    let n = c.loop-below.below in
    elim c.if-not-marks-below.branch [
      | then-not-marks-below+in_ok-push w ↦ let y = unmarked_left xs c.args.count c.args.marks.now c.requires n false c.loop-below-test.true w.if-not-marks-below.true in rw y (grind (arith, common_steps, c.loop-below.invariant, w.in_ok-push.ensures.items, w.left-is))
      | else-not-marks-below w ↦ let y = marked_not_left xs c.args.count c.args.marks.now c.requires n false c.loop-below-test.true w.if-not-marks-below.false in rw y (grind (arith, common_steps, c.loop-below.invariant, w.left-is))
    ]
