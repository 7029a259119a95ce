use Rattle.std.proofs.Common.{◌≡◌, ap, ◌∙◌}
use Rattle.avm_ledger.specs.Ledgers.{Ledger}
use Rattle.avm_items.specs.LedgerItems.{put}
use Rattle.avm_stepper.specs.Changes.{local_changes_along}
use Rattle.avm_stepper.proofs.WrittenGlobal.{puts_in_order}
use Rattle.avm_stepper.proofs.WrittenLocal.{changes_written}
use Rattle.avm_stepper.proofs.changes.local_changes.Goals as goal

pub loop-place-init : goal.loop-place-init
loop-place-init c =
    let l = c.args.ledger.now in
    let id = c.args.id in
    let before = put l c.args.prepared.now in
    let written = c.into_iter-place-iterator.ensures.into_iter_gives ∙ c.local_states-place-items.ensures.rest ∙ ap (λ (m : Ledger). m.local_states) c.in_ok-written.ensures in
    let along : local_changes_along before id c.into_iter-place-iterator.result ≡ local_changes_along before id (put before c.args.writes.now).local_states =
    ap (local_changes_along before id) written ∙ changes_written before id c.args.writes.now (puts_in_order l c.args.prepared.now c.holds.ensures.order) in
    rw c.new-changes.ensures.items along
