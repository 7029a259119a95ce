use Rattle.std.proofs.Common.{rules, ◌≡◌, true, nat_le, length, Ok, sym, ap, subst, ◌∙◌}
use Rattle.std.specs.Option.{option_copied}
use Rattle.teal_value.specs.declared.fault.Fault.TheVariants as fault
use Rattle.avm_items.specs.Asks.{answer_from}
use Rattle.avm_items.specs.Acts.{done, on_ok}
use Rattle.avm_items.specs.CallFields.{account}
use Rattle.avm_items.specs.declared.item.Item.TheVariants as item
use Rattle.avm_items.specs.declared.item_value.ItemValue.TheVariants as value
use Rattle.avm_items.specs.Items.{with_item}
use Rattle.avm_items.specs.Environments.{known_to}
use Rattle.avm_states.specs.Entries.{with_entry}
use Rattle.avm_ops.specs.declared.op.Stop.TheVariants as stop
use Rattle.avm_ops.specs.Frame.{there}
use Rattle.avm_ops.specs.Objects.{context_of}
use Rattle.avm_ops.specs.States.{leaves, local_put, local_state, value_length}
use Rattle.avm_state_ops.specs.Parts.{known_row, schema_test}
use Rattle.avm_state_ops.proofs.Rows.{passed_on, local_put_left, local_put_row}
use Rattle.avm_state_ops.proofs.writes.local_put.Goals as goal

-- The row up to its last test, and then the test.
pub returns-in_err-test_schema-clause-row : goal.returns-in_err-test_schema-clause-row
returns-in_err-test_schema-clause-row c =
    let m = c.args.cpu.now in
    let e = c.args.env.now in
    let key = c.in_ok-index.key.now in
    let v = c.in_ok-index.value.now in
    let state = c.in-Some.state.now in
    let row = option_copied c.in_ok-application.field-0 in
    let app = c.current-current.result in
    let short : nat_le (length key) 64 ≡ true = search rules in
    let small : nat_le (value_length v) 64 ≡ true = search rules in
    let who_is : there (account e.call c.in_ok-index.index) fault.NoAccount ≡ Ok c.in_ok-who.who =
    subst (λ call. there (account call c.in_ok-index.index) fault.NoAccount ≡ Ok c.in_ok-who.who) c.call.ensures (sym c.in_ok-who.ensures) in
    let state_is = subst (λ o. answer_from (known_to e) (local_state c.in_ok-who.who app) ≡ Ok (Ok (option_copied o))) c.in-Some.is c.in_ok-state.ensures in
    let left = λ (u : Unit {0}). done (leaves (context_of m e) 3 (with_item e.writes (item.Local c.in_ok-who.who e.current) (value.Local (with_entry state key v)))) in
    passed_on c.from_residual-in_err-test_schema.result (stop.Fault c.in_err-test_schema.field-0.0) m e (known_row local_put m e) c.from_residual-in_err-test_schema.ensures.1
    (local_put_row m e c.in_ok-index.index key v c.in_ok-who.who state row app c.in_ok-index.ensures who_is c.current-current.ensures state_is short small c.in_ok-application.ensures
    ∙ ap (λ r. answer_from (known_to e) (on_ok left r)) (ap (schema_test state key v) (sym c.local_limit-limit.ensures) ∙ ap (λ k. schema_test state k v c.local_limit-limit.result) (sym c.in-Some-of.ensures.key) ∙ sym c.in_err-test_schema.ensures))

pub returns-clause-row : goal.returns-clause-row
returns-clause-row c =
    let m = c.args.cpu.now in
    let e = c.args.env.now in
    let key = c.in_ok-index.key.now in
    let v = c.in_ok-index.value.now in
    let state = c.in-Some.state.now in
    let row = option_copied c.in_ok-application.field-0 in
    let app = c.current-current.result in
    let short : nat_le (length key) 64 ≡ true = search rules in
    let small : nat_le (value_length v) 64 ≡ true = search rules in
    let who_is : there (account e.call c.in_ok-index.index) fault.NoAccount ≡ Ok c.in_ok-who.who =
    subst (λ call. there (account call c.in_ok-index.index) fault.NoAccount ≡ Ok c.in_ok-who.who) c.call.ensures (sym c.in_ok-who.ensures) in
    let state_is = subst (λ o. answer_from (known_to e) (local_state c.in_ok-who.who app) ≡ Ok (Ok (option_copied o))) c.in-Some.is c.in_ok-state.ensures in
    let left = λ (u : Unit {0}). done (leaves (context_of m e) 3 (with_item e.writes (item.Local c.in_ok-who.who e.current) (value.Local (with_entry state key v)))) in
    local_put_row m e c.in_ok-index.index key v c.in_ok-who.who state row app c.in_ok-index.ensures who_is c.current-current.ensures state_is short small c.in_ok-application.ensures
    ∙ ap (λ r. answer_from (known_to e) (on_ok left r)) (ap (schema_test state key v) (sym c.local_limit-limit.ensures) ∙ ap (λ k. schema_test state k v c.local_limit-limit.result) (sym c.in-Some-of.ensures.key) ∙ sym c.in_ok-test_schema.ensures)
    ∙ ap (λ x. Ok (Ok x)) (local_put_left m c.drop_top.new.self e c.put_entry.new.self key c.in-Some-of.state_key v c.in_ok-copy.copy c.in_ok-who.who state app c.current-current.ensures c.in-Some-of.ensures.key c.in_ok-copy.ensures state_is c.drop_top.ensures c.in_ok-put_entry.ensures.ok)
