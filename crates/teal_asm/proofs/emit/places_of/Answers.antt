use Rattle.std.proofs.Common.{◌+◌, arith, ap}
use Rattle.teal_asm.proofs.Emitting.{next_place, too_far, all_places}
use Rattle.teal_asm.proofs.emit.places_of.Goals as goal

pub returns-then-place-gt-MOST : goal.returns-then-place-gt-MOST
returns-then-place-gt-MOST c =
    let at = c.loop-instruction in
    too_far c.args.instructions.now at.instruction-index c.instruction-item.result at.places.items at.place (at.place + c.in_ok-place.field-0) c.loop-instruction-test.true c.instruction-item.is at.invariant (ap (λ n. at.place + n) c.in_ok-place.ensures.size) c.if-place-gt-MOST.true

pub loop-instruction-preserved : goal.loop-instruction-preserved
loop-instruction-preserved c =
    let at = c.loop-instruction in
    next_place c.args.instructions.now at.instruction-index c.instruction-item.result at.places.items _ at.place (at.place + c.in_ok-place.field-0) c.loop-instruction-test.true c.instruction-item.is at.invariant (ap (λ n. at.place + n) c.in_ok-place.ensures.size) (omega arith) c.in_ok-push-2.ensures.items

pub returns : goal.returns
returns c = all_places c.args.instructions.now c.loop-instruction.instruction-index c.loop-instruction.places.items c.loop-instruction.place (omega arith) c.loop-instruction.invariant
