use Rattle.std.proofs.Common.{sym, ap, ◌∙◌}
use Rattle.std.proofs.lemmas.Bool.{eqb-true}
use Rattle.avm_ops.specs.OpSets.{object_at}
use Rattle.avm_ops.proofs.Sets.{has_at}
use Rattle.avm_ops.proofs.set.Ops.has.Goals as goal

pub returns-in-Some-clause-there : goal.returns-in-Some-clause-there
returns-in-Some-clause-there g c same = has_at g.O.Op.opcode c.args.self.now c.args.opcode c.in-Some.op.now
    (sym (c.in-Some.ensures ∙ ap (object_at c.args.self.now) c.code.ensures))
    (sym c.code-in-Some.ensures ∙ eqb-true c.code-in-Some.result c.code-in-Some-2.result same ∙ c.code-in-Some-2.ensures)
