use Rattle.std.proofs.Common.{◌∙◌, ◌+◌, ◌∷◌, ap, sym, drop}
use Rattle.std.proofs.lemmas.List.{drop_more}
use Rattle.avm_stepper.specs.Scratch.{places_seen}
use Rattle.json_views.proofs.ScratchRuns.{place_written}
use Rattle.json_views.proofs.machine.put_scratch.Goals as goal

pub loop-place-preserved : goal.loop-place-preserved
loop-place-preserved c =
    let places = c.args.places.now in
    let index = c.loop-place.place-index in
    let p = c.place-item.result in
    let left = ap places_seen (drop_more places index p c.loop-place-test.true ∙ ap (λ q. q ∷ drop (index + 1) places) (sym c.place-item.is)) in
    rw c.from-index.ensures
    (place_written _ c.loop-place.out c.put_zeros.new.out c.put_value.new.out c.loop-place.next (p.index, p.value) (places_seen (drop (index + 1) places)) (places_seen (drop index places)) left c.loop-place.invariant
    (rw c.from-index.ensures at c.in_ok-put_zeros.ensures) c.in_ok-put_value.ensures)
