use Rattle.std.proofs.Common.{◌≡◌, [], ap, ◌∙◌, arith}
use Rattle.std.proofs.lemmas.List.{nil_from_length}
use Rattle.teal_source.specs.Shown.{words}
use Rattle.teal_source.specs.Statements.{statements, words_on}
use Rattle.teal_asm.proofs.LineByLine.{statements-nil}
use Rattle.teal_asm.proofs.Thinning.{thins_itself}
use Rattle.teal_asm.proofs.lines.add_words.Goals as goal

pub returns-in-empty-clause-leaves : goal.returns-in-empty-clause-leaves
returns-in-empty-clause-leaves c =
    let before = c.args.body.now.statements.items in
    let none : c.args.line_words.now ≡ [] = nil_from_length c.args.line_words.now (omega (arith, c.in-empty.len_below)) in
    (before, ap (λ ws. statements c.args.version before (words_on c.args.line (words ws))) none ∙ statements-nil c.args.version before, thins_itself before)
