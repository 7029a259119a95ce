use Rattle.std.proofs.Common.{rules, ◌≡◌, true, nat_le, length, Some}
use Rattle.std.specs.Option.{option_copied}
use Rattle.avm_items.specs.Asks.{answer_from}
use Rattle.avm_items.specs.Environments.{known_to}
use Rattle.avm_states.specs.Schemas.{keeps_kind}
use Rattle.avm_ops.specs.Objects.{context_of}
use Rattle.avm_ops.specs.States.{global_put, global_put_over, value_length}
use Rattle.avm_state_ops.specs.Parts.{after_put, known_row}
use Rattle.avm_state_ops.proofs.Rows.{passed_on, stopped, global_put_row}
use Rattle.avm_state_ops.proofs.writes.global_put.Goals as goal

pub returns-in_err-after-clause-row : goal.returns-in_err-after-clause-row
returns-in_err-after-clause-row c =
    let m = c.args.cpu.now in
    let e = c.args.env.now in
    let key = c.in_ok-key.key.now in
    let v = c.in_ok-key.value.now in
    let old = option_copied c.in_ok-old.old in
    let t = known_row global_put m e in
    let short : nat_le (length key) 64 ≡ true = search rules in
    let small : nat_le (value_length v) 64 ≡ true = search rules in
    passed_on c.from_residual-in_err-after.result c.in_err-after.field-0.0 m e t c.from_residual-in_err-after.ensures.1
    (stopped (after_put (context_of m e) key v) c.in_err-after.field-0.0 m e t (answer_from (known_to e) (global_put_over (context_of m e) key v old (keeps_kind old (Some v))))
    (global_put_row m e key v old c.current-current.result c.in_ok-key.ensures short small c.current-current.ensures c.in_ok-old.ensures)
    (c.in_err-after.ensures m key))
