use Rattle.std.proofs.Common.{sym, ◌∙◌, arith}
use Rattle.teal_asm.proofs.Bodies.{no_value}
use Rattle.teal_asm.proofs.Needless.{behind_one_back, behind_one_that_waits, no_branch}
use Rattle.teal_asm.proofs.body.Body.is_needless.Goals as goal

pub returns-then-self : goal.returns-then-self
returns-then-self c = λ t. (omega (arith, c.if-self-le-MOST.false), behind_one_back c.args.self.now.statements.items c.args.statement.now (no_value c.args.statement.now.label (sym c.is_some.ensures ∙ c.if-is_some.false)) (c.requires.leads_back c.if-self.true))

pub returns-else-self : goal.returns-else-self
returns-else-self c = λ t.
    let waits = c.is_waited_for.ensures t in
    (omega (arith, c.if-self-le-MOST.false), behind_one_that_waits c.args.self.now.statements.items c.args.statement.now _ (no_value c.args.statement.now.label (sym c.is_some.ensures ∙ c.if-is_some.false)) (sym c.in-Some.ensures) waits.0 waits.1)

pub returns-in-None : goal.returns-in-None
returns-in-None c = λ t. (omega (arith, c.if-self-le-MOST.false), no_branch c.args.self.now.statements.items c.args.statement.now (no_value c.args.statement.now.label (sym c.is_some.ensures ∙ c.if-is_some.false)) (sym c.in-None.ensures))
