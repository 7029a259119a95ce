use Rattle.std.proofs.Common.{◌≡◌, Ok, refl}
use Rattle.std.proofs.lemmas.Result.{err_from_is_err_and}
use Rattle.teal_text.specs.Lines.{view}
use Rattle.teal_source.specs.Statements.{pragma_of}
use Rattle.teal_asm.specs.Instructions.{all_meant}
use Rattle.teal_asm.proofs.Branches.{same_or_long, same_refusal}
use Rattle.teal_asm.proofs.Pragma.{its_instructions, no_instructions}
use Rattle.teal_asm.proofs.meaning.meaning_from.Goals as goal

pub returns-in_err-instructions-clause-meaning : goal.returns-in_err-instructions-clause-meaning
returns-in_err-instructions-clause-meaning c =
    let p = err_from_is_err_and c.from_residual-in_err-instructions.result c.from_residual-in_err-instructions.ensures.1 in
    let u = c.args.lines.now in
    let kept = c.in_ok-body.body.statements.items in
    let d = c.in_err-instructions.field-0.0 in
    let named : pragma_of u.text (view c.args.first) ≡ Ok c.in-Ok.version = rw c.text.ensures at c.in-Ok.ensures in
    let read = c.in_ok-body.ensures.statements in
    rw (p.1, p.2) (no_instructions c.in-Ok.version u read.0 d (pragma_of u.text (view c.args.first)) named read.1 (same_refusal kept read.0 d read.2 c.in_err-instructions.ensures))

pub returns-clause-meaning : goal.returns-clause-meaning
returns-clause-meaning c =
    let u = c.args.lines.now in
    let kept = c.in_ok-body.body.statements.items in
    let named : pragma_of u.text (view c.args.first) ≡ Ok c.in-Ok.version = rw c.text.ensures at c.in-Ok.ensures in
    let read = c.in_ok-body.ensures.statements in
    let whole = same_or_long kept read.0 (all_meant c.in_ok-instructions.instructions.items) read.2 c.in_ok-instructions.ensures in (
      record { version = c.in-Ok.version; instructions = whole.0 },
      its_instructions c.in-Ok.version u read.0 whole.0 (pragma_of u.text (view c.args.first)) named read.1 whole.1,
      record { version = refl; instructions = whole.2 },
    )
