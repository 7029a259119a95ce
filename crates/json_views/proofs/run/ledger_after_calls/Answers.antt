use Rattle.std.proofs.Common.{◌≡◌, ◌∙◌, ◌∷◌, ◌+◌, ap, drop, sym}
use Rattle.std.proofs.lemmas.List.{drop_more}
use Rattle.avm_call.specs.Replay.{replayed}
use Rattle.json_views.proofs.run.ledger_after_calls.Goals as goal

pub loop-call-preserved : goal.loop-call-preserved
loop-call-preserved g c =
    let calls = c.args.calls.now in
    let i = c.loop-call.call-index in
    let call = c.call-item.result in
    let more : drop i calls ≡ call ∷ drop (i + 1) calls = drop_more calls i call c.loop-call-test.true ∙ ap (λ x. x ∷ drop (i + 1) calls) (sym c.call-item.is) in
    rw c.in_ok-call_on.ensures.after (sym (ap (replayed c.loop-call.after c.args.context.now.header.now) more) ∙ c.loop-call.invariant)
