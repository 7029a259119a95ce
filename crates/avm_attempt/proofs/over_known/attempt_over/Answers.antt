use Rattle.std.proofs.Common.{Some, sym, ap, ◌∙◌, arith}
use Rattle.avm_attempt.proofs.UnderWay.{asks_first, begins, ends_over, has_asked, may_go_on, supplied_on}
use Rattle.avm_attempt.proofs.over_known.attempt_over.Goals as goal

pub asking-init : goal.asking-init
asking-init g c = begins c.args.call.now c.args.header.now c.args.known.now _ c.in_ok-run.ensures

pub advance-requires : goal.advance-requires
advance-requires g c = (c.type_bounds.send-O, may_go_on c.args.call.now c.args.header.now c.args.known.now c.asking.run c.asking.invariant)

pub supply-requires : goal.supply-requires
supply-requires g c = record { asked = has_asked c.asking.run c.advance.new.run c.in-Need.item (rw c.in-Need.is at c.in_ok-item.ensures) }

pub asking-smaller : goal.asking-smaller
asking-smaller g c =
    let found = sym c.in-Some.ensures ∙ ap Some (sym c.in_ok-clone-in-Some.ensures) in
    let on = supplied_on c.args.call.now c.args.header.now c.args.known.now c.asking.run c.advance.new.run c.supply.new.run c.in-Need.item c.in_ok-clone-in-Some.field-0 c.asking.invariant (rw c.in-Need.is at c.in_ok-item.ensures) c.in_ok-supply-in-Some.ensures found in
    omega (arith, on.longer, on.few)

pub asking-preserved : goal.asking-preserved
asking-preserved g c =
    let found = sym c.in-Some.ensures ∙ ap Some (sym c.in_ok-clone-in-Some.ensures) in
    (supplied_on c.args.call.now c.args.header.now c.args.known.now c.asking.run c.advance.new.run c.supply.new.run c.in-Need.item c.in_ok-clone-in-Some.field-0 c.asking.invariant (rw c.in-Need.is at c.in_ok-item.ensures) c.in_ok-supply-in-Some.ensures found).under_way

pub returns-in-None : goal.returns-in-None
returns-in-None g c =
    asks_first c.args.call.now c.args.header.now c.args.known.now c.asking.run c.advance.new.run c.in-Need.item c.asking.invariant (rw c.in-Need.is at c.in_ok-item.ensures) (sym c.in-None.ensures)

pub returns-in-Done : goal.returns-in-Done
returns-in-Done g c =
    ends_over c.args.call.now c.args.header.now c.args.known.now c.asking.run c.advance.new.run c.in-Done.finished c.asking.invariant (rw c.in-Done.is at c.in_ok-item.ensures) c.finished_calls_change.ensures
