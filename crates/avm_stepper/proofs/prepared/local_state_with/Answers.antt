use Rattle.std.proofs.Common.{◌≡◌, None, Some, sym, ap, ◌∙◌}
use Rattle.std.specs.Option.{option_copied}
use Rattle.avm_ledger.specs.Ledgers.{local_state_at}
use Rattle.avm_items.specs.declared.item.Item.TheVariants as item
use Rattle.avm_items.specs.Items.{value_in}
use Rattle.avm_stepper.specs.WrittenStates.{local_state_over}
use Rattle.avm_stepper.proofs.WrittenLocal.{local_put}
use Rattle.avm_stepper.proofs.prepared.local_state_with.Goals as goal

pub returns-in-Some : goal.returns-in-Some
returns-in-Some c =
    let l = c.args.ledger.now in
    let who = c.args.who.now in
    let id = c.args.id in
    let items = c.args.items.now in
    let found : Some c.in-Some.value.now ≡ value_in items (item.Local who id) = c.in-Some.ensures in
    c.set_over.ensures
    ∙ ap (λ f. local_state_over f (option_copied c.local_state-before.result)) found
    ∙ ap (local_state_over (value_in items (item.Local who id))) c.local_state-before.ensures
    ∙ sym (local_put l who id items c.holds.ensures.order c.as_slice-items.ensures.order)

pub returns : goal.returns
returns c =
    let l = c.args.ledger.now in
    let who = c.args.who.now in
    let id = c.args.id in
    let items = c.args.items.now in
    let none : None ≡ value_in items (item.Local who id) = c.in-None.ensures in
    c.local_state-before.ensures
    ∙ ap (λ f. local_state_over f (local_state_at l who id)) none
    ∙ sym (local_put l who id items c.holds.ensures.order c.as_slice-items.ensures.order)
