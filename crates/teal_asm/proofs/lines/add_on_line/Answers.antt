use Rattle.std.proofs.Common.{ap, ◌∙◌}
use Rattle.teal_source.specs.Statements.{on_line}
use Rattle.teal_asm.specs.LineWords.{line_words}
use Rattle.teal_asm.proofs.LineByLine.{one_line, fails_on_line}
use Rattle.teal_asm.proofs.lines.add_on_line.Goals as goal

pub returns-in-Ok-clause-leaves : goal.returns-in-Ok-clause-leaves
returns-in-Ok-clause-leaves c =
    let left = c.in-Ok.ensures.leaves in
    (left.0, one_line _ _ _ ∙ ap (on_line c.args.line.now.line) left.1, left.2)

pub returns-in-Err-clause-leaves : goal.returns-in-Err-clause-leaves
returns-in-Err-clause-leaves c = rw (c.on_line.ensures, one_line c.args.version c.args.body.now.statements.items (line_words c.args.line.now)) (fails_on_line c.args.line.now.line c.in-Err.error _ c.in-Err.ensures.leaves)
