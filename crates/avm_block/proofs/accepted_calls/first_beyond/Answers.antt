use Rattle.std.proofs.Common.{◌≡◌, ◌+◌, ◌∙◌, ap, sym, refl, true, arith}
use Rattle.std.proofs.lemmas.List.Elements.{All-more}
use Rattle.avm_block.specs.AcceptedCalls.{is_accepted}
use Rattle.avm_block.proofs.FirstBeyond.{all_taken, beyond_here, none_beyond, within_here}
use Rattle.avm_block.proofs.accepted_calls.first_beyond.Goals as goal

pub loop-call-init : goal.loop-call-init
loop-call-init c = record { counted = refl; rest = refl; accepted = λ k d lt. absurd (omega (arith, lt)) }

pub overflow_add-number : goal.overflow_add-number
overflow_add-number c = let lt = c.loop-call-test.true in omega (arith, c.loop-call.invariant.counted, lt, c.requires.few)

pub returns-then-not-accepts-clause-beyond : goal.returns-then-not-accepts-clause-beyond
returns-then-not-accepts-clause-beyond c =
    let here = beyond_here c.args.profile (c.loop-call.number + 1) c.loop-call.call-index c.args.calls.now c.call-item.result c.loop-call-test.true c.call-item.is
    (sym c.accepts.ensures.within ∙ c.if-not-accepts.true) in
    sym (c.loop-call.invariant.rest ∙ here)

pub loop-call-preserved : goal.loop-call-preserved
loop-call-preserved c =
    let here = within_here c.args.profile (c.loop-call.number + 1) c.loop-call.call-index c.args.calls.now c.call-item.result c.loop-call-test.true c.call-item.is
    (sym c.accepts.ensures.within ∙ c.if-not-accepts.false) in
    record {
      counted = ap (λ n. n + 1) c.loop-call.invariant.counted;
      rest = c.loop-call.invariant.rest ∙ here;
      accepted = All-more (λ call. is_accepted c.args.profile call ≡ true) c.args.calls.now c.loop-call.call-index c.call-item.result c.loop-call-test.true
          c.loop-call.invariant.accepted (rw (← c.call-item.is) (sym c.accepts.ensures.accepted ∙ c.if-not-accepts.false));
    }

pub returns-clause-beyond : goal.returns-clause-beyond
returns-clause-beyond c = sym (c.loop-call.invariant.rest ∙ none_beyond c.args.profile _ c.loop-call.call-index c.args.calls.now c.loop-call-test.false)

pub returns-clause-accepted : goal.returns-clause-accepted
returns-clause-accepted c = λ _. all_taken (λ call. is_accepted c.args.profile call ≡ true) c.args.calls.now c.loop-call.call-index c.loop-call-test.false
    c.loop-call.auto.call-index-end c.loop-call.invariant.accepted
