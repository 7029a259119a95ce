use Rattle.std.specs.Option.{option_copied}
use Rattle.avm_items.specs.Asks.{answer_from}
use Rattle.avm_items.specs.Environments.{known_to}
use Rattle.avm_ops.specs.Objects.{context_of}
use Rattle.avm_ops.specs.States.{global_delete, global_delete_of}
use Rattle.avm_state_ops.specs.Parts.{after_delete, known_row}
use Rattle.avm_state_ops.proofs.Rows.{passed_on, stopped, global_delete_row}
use Rattle.avm_state_ops.proofs.writes.global_delete.Goals as goal

pub returns-in_err-counts-clause-row : goal.returns-in_err-counts-clause-row
returns-in_err-counts-clause-row c =
    let m = c.args.cpu.now in
    let e = c.args.env.now in
    let key = c.in_ok-key.key.now in
    let old = option_copied c.in_ok-old.old in
    let t = known_row global_delete m e in
    passed_on c.from_residual-in_err-counts.result c.in_err-counts.field-0.0 m e t c.from_residual-in_err-counts.ensures.1
    (stopped (after_delete (context_of m e) key) c.in_err-counts.field-0.0 m e t (answer_from (known_to e) (global_delete_of (context_of m e) key old))
    (global_delete_row m e key old c.current-current.result c.in_ok-key.ensures c.current-current.ensures c.in_ok-old.ensures)
    (c.in_err-counts.ensures m key))
