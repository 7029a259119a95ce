use Rattle.std.proofs.Common.{ap, sym, ◌∙◌, get_or, ◌++◌, ◌∷◌, [], false, Some}
use Rattle.teal_dis.proofs.Labelling.{no_labels, labels_target, skips}
use Rattle.teal_dis.proofs.labels.labels_of.Goals as goal
use Rattle.teal_dis.proofs.labels.labels_of.Goals.{then-mark, else-mark}

pub loop-mark-init : goal.loop-mark-init
loop-mark-init c = no_labels _ _ c.new-labels.ensures.items

pub loop-mark-preserved : goal.loop-mark-preserved
loop-mark-preserved c =
    let marks = c.in_ok-marks.marks.items in
    let number = c.loop-mark.mark-index in
    let is = c.deref-mark-items.ensures.value in
    let lt = rw is at c.loop-mark-test.true in
    elim c.if-mark.branch [
      | then-mark w ↦ labels_target c.args.program.now.placed marks c.loop-mark.labels.items c.push.new.self.items number c.loop-mark.last c.if-mark.last c.in_ok-marks.ensures c.loop-mark.invariant lt
          (sym (ap (λ ms. get_or ms number false) is) ∙ w.if-mark.true) w.last-is (c.in_ok-push.ensures.items ∙ ap (λ o. c.loop-mark.labels.items ++ o ∷ []) (w.label-is ∙ ap (λ n. Some n) (sym w.last-is)))
      | else-mark w ↦ rw w.last-is (skips c.args.program.now.placed marks c.loop-mark.labels.items c.push.new.self.items number c.loop-mark.last c.in_ok-marks.ensures c.loop-mark.invariant lt
          (sym (ap (λ ms. get_or ms number false) is) ∙ w.if-mark.false) (c.in_ok-push.ensures.items ∙ ap (λ o. c.loop-mark.labels.items ++ o ∷ []) w.label-is))
    ]
