use Rattle.std.proofs.Common.{◌+◌, ap, sym, subst, refl, arith}
use Rattle.avm_call.specs.Places.{HasPlace}
use Rattle.avm_replay.proofs.MadeCalls.{made_all, made_more, nothing_made}
use Rattle.avm_replay.proofs.plain.entries_of.Goals as goal

pub loop-call-init : goal.loop-call-init
loop-call-init g c = (refl, rw c.new-entries.ensures.items (nothing_made c.args.ledger.now c.args.context.now.header.now))

pub overflow_add-timestamp : goal.overflow_add-timestamp
overflow_add-timestamp g c = let lt = c.loop-call-test.true in omega (arith, c.loop-call.invariant.0, lt, c.requires.few)

pub loop-call-preserved : goal.loop-call-preserved
loop-call-preserved g c =
    let counted = ap (λ n. n + 1) c.loop-call.invariant.0 in
    let place = subst HasPlace (sym c.in_ok-outcome.ensures.outcome) c.outcome_has_place.ensures in
    let made = made_more c.args.ledger.now c.loop-call.ledger c.args.context.now.header.now c.args.calls.now c.loop-call.call-index c.loop-call.entries.items
    (record { timestamp = c.loop-call.timestamp + 1; call = c.call-item.result; outcome = c.in_ok-outcome.outcome })
    c.loop-call-test.true c.call-item.is c.loop-call.invariant.1 counted c.in_ok-outcome.ensures.outcome place in
    (counted, rw (c.in_ok-push.ensures.items, c.in_ok-clone.ensures, c.in_ok-outcome.ensures.after) made)

pub returns : goal.returns
returns g c = made_all _ _ _ _ _ _ c.loop-call-test.false c.loop-call.auto.call-index-end c.loop-call.invariant.1
