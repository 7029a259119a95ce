use Rattle.std.proofs.Common.{◌≡◌, IfOk, [], sym, ap, subst, ◌∙◌, unwrap_or}
use Rattle.std.specs.Option.{option_copied}
use Rattle.avm_ledger.specs.Ledgers.{application_at}
use Rattle.avm_items.specs.LedgerItems.{put}
use Rattle.avm_call.specs.Views.{state_changes}
use Rattle.avm_stepper.specs.Changes.{changes_seen, global_entries}
use Rattle.avm_stepper.specs.WrittenStates.{with_items_set}
use Rattle.avm_stepper.proofs.WrittenGlobal.{entries_of, puts_in_order, state_at, state_put}
use Rattle.avm_stepper.proofs.changes.global_changes.Goals as goal

pub returns : goal.returns
returns c =
    let l = c.args.ledger.now in
    let id = c.args.id in
    let prepared = c.args.prepared.now in
    let writes = c.args.writes.now in
    let before = put l prepared in
    let old : c.in_ok-before.before ≡ state_at before id =
    c.in_ok-before.ensures ∙ ap (λ s. with_items_set id s prepared) (c.in_ok-copy_of.ensures ∙ c.global_state.ensures) ∙ sym (state_put l id prepared c.holds.ensures.order) in
    let new : c.in_ok-after.after ≡ state_at (put before writes) id =
    c.in_ok-after.ensures ∙ ap (λ s. with_items_set id s writes) (c.in_ok-copy_of-2.ensures ∙ c.as_ref.ensures.value ∙ old) ∙ sym (state_put before id writes (puts_in_order l prepared c.holds.ensures.order)) in
    let first : unwrap_or (option_copied c.as_ref-2.result) [] ≡ global_entries (application_at before id) = ap (λ s. unwrap_or s []) (c.as_ref-2.ensures.value ∙ old) ∙ sym (entries_of (application_at before id)) in
    let second : unwrap_or (option_copied c.as_ref-3.result) [] ≡ global_entries (application_at (put before writes) id) = ap (λ s. unwrap_or s []) (c.as_ref-3.ensures.value ∙ new) ∙ sym (entries_of (application_at (put before writes) id)) in
    subst (λ are. IfOk c.option_changes.result (λ changes. changes_seen changes.items ≡ are)) (λ i. state_changes (first i) (second i)) c.option_changes.ensures
