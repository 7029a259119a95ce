use Rattle.std.proofs.Common.{◌≡◌, subst, sym, ap, ◌∙◌}
use Rattle.avm_ledger.specs.Ledgers.{IsOrderly}
use Rattle.avm_items.specs.LedgerItems.{put}
use Rattle.avm_call.specs.Replay.{ledger_after}
use Rattle.avm_run.proofs.Executing.{if_err, refused_ended}
use Rattle.avm_run.proofs.on_ledger.call_on.Goals as goal

pub put_items-requires : goal.put_items-requires
put_items-requires g c =
    let l = c.args.ledger.now in
    let later = c.every_call_keeps_order.ensures.call l c.args.call.now c.args.context.now.header.now c.holds.ensures in
    let all = c.changes_are_handed_on.ensures.all l c.args.call.now c.args.context.now.header.now c.holds.ensures in
    let after : put l c.in_ok-closed.closed.writes ≡ ledger_after l c.args.call.now c.args.context.now.header.now = ap (λ (r : _). put l r.1) c.in_ok-closed.ensures.result ∙ sym all in
    subst IsOrderly (sym after) (record { order = later.order; below = later.below })

pub returns-clause-after : goal.returns-clause-after
returns-clause-after g c =
    let l = c.args.ledger.now in
    let all = c.changes_are_handed_on.ensures.all l c.args.call.now c.args.context.now.header.now c.holds.ensures in
    c.in_ok-room.ensures.put ∙ ap (λ (r : _). put l r.1) c.in_ok-closed.ensures.result ∙ sym all

pub returns-in_err-room-clause-few : goal.returns-in_err-room-clause-few
returns-in_err-room-clause-few g c =
    let e = c.in_ok-closed.ensures.executes in
    if_err _ _ (refused_ended c.args.call.now c.args.context.now.header.now e.reads _ _ _ e.executes)
