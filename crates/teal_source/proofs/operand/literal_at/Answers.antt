use Rattle.std.proofs.Common.{sym, ◌∙◌}
use Rattle.teal_source.proofs.Literals.{encoded_at, plain_at, last_at}
use Rattle.teal_source.proofs.operand.literal_at.Goals.{else-names_encoding-via-then-names_encoding+else-at-operands, else-names_encoding-via-else-names_encoding}
use Rattle.teal_source.proofs.operand.literal_at.Goals as goal

pub returns-then-at-operands-clause-literal : goal.returns-then-at-operands-clause-literal
returns-then-at-operands-clause-literal c = encoded_at c.args.operands.now c.args.at _ c.if-at-operands.true (sym c.if-names_encoding.ensures)

pub returns-else-names_encoding-clause-literal : goal.returns-else-names_encoding-clause-literal
returns-else-names_encoding-clause-literal c =
    elim c.else-names_encoding.branch [
      | else-names_encoding-via-then-names_encoding+else-at-operands w ↦ last_at c.args.operands.now c.args.at _ c.requires w.if-at-operands.false
      | else-names_encoding-via-else-names_encoding w ↦ plain_at c.args.operands.now c.args.at _ c.requires (sym c.names_encoding.ensures ∙ w.if-names_encoding.false)
    ]
