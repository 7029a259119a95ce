use Rattle.std.proofs.Common.{sym, refl, arith, ◌∙◌}
use Rattle.teal_table.proofs.Codes.{code_of-opcode_at}
use Rattle.avm_ops.specs.OpSets.{Has}
use Rattle.avm_ops.proofs.Sets.{with_next, at_opcode, at_no_opcode, code_of-below}
use Rattle.avm_ops.proofs.set.Ops.missing.Goals.{in-Some+else-not-has, in_default}
use Rattle.avm_ops.proofs.set.Ops.missing.Goals as goal

pub returns-then-not-has-clause-least : goal.returns-then-not-has-clause-least
returns-then-not-has-clause-least g c = record { missing = (c.in-Some.opcode, code_of-opcode_at c.loop-code.code c.in-Some.opcode (sym c.of.ensures ∙ c.in-Some.is), c.if-not-has.ensures.missing refl); least = c.loop-code.invariant }

pub loop-code-preserved : goal.loop-code-preserved
loop-code-preserved g c = with_next (Has g.O.Op.opcode c.args.self.now) c.loop-code.code c.loop-code.invariant (elim c.match-of.branch [
  | in-Some+else-not-has w ↦ at_opcode (Has g.O.Op.opcode c.args.self.now) c.loop-code.code w.in-Some.opcode (sym c.of.ensures ∙ w.in-Some.is) (w.if-not-has.ensures.there refl)
  | in_default w ↦ at_no_opcode (Has g.O.Op.opcode c.args.self.now) c.loop-code.code (sym c.of.ensures ∙ w.in_default.is)
])

pub returns-clause-none : goal.returns-clause-none
returns-clause-none g c = λ o. c.loop-code.invariant o (omega (arith, code_of-below o, c.loop-code-test.false))
