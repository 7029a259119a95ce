use Rattle.std.proofs.Common.{◌≡◌, ◌∙◌, length, slice_index_or, sym, ap, arith}
use Rattle.json_views.specs.MachineStates.{number_at, number_or}
use Rattle.json_views.proofs.NumberedPlaces.{number_at_within}
use Rattle.json_views.proofs.machine.line_at.Goals.{in-Some, in-None}
use Rattle.json_views.proofs.machine.line_at.Goals as goal

pub bounds-lines-number : goal.bounds-lines-number
bounds-lines-number c =
    let placed = c.args.program.now.placed in
    let number : c.match-at.number ≡ number_at placed c.args.place = elim c.match-at.branch [
      | in-Some w ↦ w.number-is ∙ w.from-number.ensures ∙ ap (number_or (length placed)) (sym w.in-Some.is ∙ c.at.ensures)
      | in-None w ↦ w.number-is ∙ w.count-number.ensures ∙ ap (number_or (length placed)) (sym w.in-None.is ∙ c.at.ensures)
    ] in
    omega (arith, number, number_at_within placed c.args.place, c.requires.lines.count)

pub returns : goal.returns
returns c =
    let placed = c.args.program.now.placed in
    let number : c.match-at.number ≡ number_at placed c.args.place = elim c.match-at.branch [
      | in-Some w ↦ w.number-is ∙ w.from-number.ensures ∙ ap (number_or (length placed)) (sym w.in-Some.is ∙ c.at.ensures)
      | in-None w ↦ w.number-is ∙ w.count-number.ensures ∙ ap (number_or (length placed)) (sym w.in-None.is ∙ c.at.ensures)
    ] in
    ap (λ n. slice_index_or c.args.lines.now n 0) number ∙ c.requires.lines.each (number_at placed c.args.place) (number_at_within placed c.args.place)
