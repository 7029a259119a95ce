use Rattle.std.proofs.Common.{subst}
use Rattle.avm_items.specs.declared.item.Item.TheVariants as item
use Rattle.avm_items.specs.Environments.{known_to}
use Rattle.avm_state_ops.specs.Parts.{StopsFor}
use Rattle.avm_state_ops.proofs.Rows.{passed_answer, stops_for}
use Rattle.avm_state_ops.proofs.global.global_value.Goals as goal

pub returns-in_err-row-in-CreatorAddress : goal.returns-in_err-row-in-CreatorAddress
returns-in_err-row-in-CreatorAddress c = λ m.
    let e = c.args.env.now in
    let s = c.in_err-row-in-CreatorAddress.field-0.0 in
    let stops = subst (λ id. StopsFor (known_to e (item.App id)) (item.App id) s) c.current-in-CreatorAddress.ensures c.in_err-row-in-CreatorAddress.ensures in
    rw c.in-CreatorAddress.is
    (passed_answer (λ v. v) c.from_residual-in_err-row-in-CreatorAddress.result s _ c.from_residual-in_err-row-in-CreatorAddress.ensures.1
    (stops_for (λ v. v) (item.App e.current) s (known_to e (item.App e.current)) _ stops))
