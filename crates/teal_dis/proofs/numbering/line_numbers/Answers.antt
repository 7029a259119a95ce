use Rattle.std.proofs.Common.{ap, arith, sym, ◌∙◌, get_or, ◌++◌, ◌∷◌, [], false}
use Rattle.teal_check.proofs.CheckedPrograms.{is_kept}
use Rattle.teal_dis.proofs.LineNumbers.{all_numbers, behind_label, no_numbers, without_label}
use Rattle.teal_dis.proofs.numbering.line_numbers.Goals as goal
use Rattle.teal_dis.proofs.numbering.line_numbers.Goals.{then-mark, else-mark}

pub marks_of-requires : goal.marks_of-requires
marks_of-requires c = (is_kept _ _ c.bytes-checked.ensures.checked).few

-- no more lines than two for each instruction and for the end, behind the first
pub overflow_add-lines : goal.overflow_add-lines
overflow_add-lines c =
    let few = (is_kept _ _ c.bytes-checked.ensures.checked).few in
    let lt = rw c.deref-mark-items.ensures.value at c.loop-mark-test.true in
    omega (arith, c.loop-mark.invariant.few, c.in_ok-marks.ensures.count)

pub overflow_add-lines-in-loop-mark : goal.overflow_add-lines-in-loop-mark
overflow_add-lines-in-loop-mark c =
    let few = (is_kept _ _ c.bytes-checked.ensures.checked).few in
    let lt = rw c.deref-mark-items.ensures.value at c.loop-mark-test.true in
    elim c.if-mark.branch [
      | then-mark w ↦ omega (arith, w.lines-is, c.loop-mark.invariant.few, c.in_ok-marks.ensures.count)
      | else-mark w ↦ omega (arith, w.lines-is, c.loop-mark.invariant.few, c.in_ok-marks.ensures.count)
    ]

pub loop-mark-init : goal.loop-mark-init
loop-mark-init c = no_numbers _ _ c.new-numbers.ensures.items

pub loop-mark-preserved : goal.loop-mark-preserved
loop-mark-preserved c =
    let marks = c.in_ok-marks.marks.items in
    let number = c.loop-mark.mark-index in
    let is = c.deref-mark-items.ensures.value in
    let lt = rw is at c.loop-mark-test.true in
    elim c.if-mark.branch [
      | then-mark w ↦ behind_label c.args.program.now.placed marks c.loop-mark.numbers.items c.push.new.self.items number c.loop-mark.lines c.if-mark.lines c.in_ok-marks.ensures c.loop-mark.invariant lt
          (sym (ap (λ ms. get_or ms number false) is) ∙ w.if-mark.true) w.lines-is c.in_ok-push.ensures.items
      | else-mark w ↦ rw w.lines-is (without_label c.args.program.now.placed marks c.loop-mark.numbers.items c.push.new.self.items number c.loop-mark.lines c.in_ok-marks.ensures c.loop-mark.invariant lt
          (sym (ap (λ ms. get_or ms number false) is) ∙ w.if-mark.false) (c.in_ok-push.ensures.items ∙ ap (λ n. c.loop-mark.numbers.items ++ n ∷ []) w.lines-is))
    ]
