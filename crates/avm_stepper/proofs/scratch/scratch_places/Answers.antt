use Rattle.avm_stepper.specs.Scratch.{places_seen, set_places}
use Rattle.avm_stepper.proofs.Places.{places_more}
use Rattle.avm_stepper.proofs.scratch.scratch_places.Goals as goal

pub loop-place-preserved : goal.loop-place-preserved
loop-place-preserved c =
    let values = c.args.cpu.now.scratch in
    places_more values c.loop-place.place c.scratch.result.now (places_seen c.loop-place.places.items) (places_seen c.push_place.new.places.items) (set_places 0 values) c.scratch.ensures c.loop-place.invariant c.in_ok-push_place.ensures
