use Rattle.std.proofs.Common.{◌≡◌, Ok, sym, subst, ◌∙◌}
use Rattle.std.proofs.lemmas.Result.{err_from_is_err_and}
use Rattle.teal_value.specs.Answer.{Gives, Fails}
use Rattle.teal_text.specs.Unread.{all_lines}
use Rattle.teal_asm.specs.Instructions.{meaning_in}
use Rattle.teal_asm.specs.Reading.{line_total, unread_meaning}
use Rattle.teal_asm.proofs.Assembled.{no_meaning, its_program}
use Rattle.teal_asm.proofs.ThinReading.{same_program}
use Rattle.teal_asm.proofs.assembler.assemble.Goals as goal

pub returns-in_err-meaning : goal.returns-in_err-meaning
returns-in_err-meaning c =
    let p = err_from_is_err_and c.from_residual.result c.from_residual.ensures.1 in
    let fails : Fails c.in_err-meaning.field-0.0 (unread_meaning (all_lines c.args.text.now)) = rw c.of-lines.ensures at c.in_err-meaning.ensures.meaning in
    rw (p.1, p.2) (no_meaning c.args.text.now c.in_err-meaning.field-0.0 fails)

pub returns : goal.returns
returns c =
    let text = c.args.text.now in
    let found = c.in_ok-meaning.ensures.meaning in
    let means : unread_meaning (all_lines text) ≡ Ok found.0 = rw c.of-lines.ensures at found.1 in
    let total : line_total (all_lines text) ≡ Ok c.read.result = rw (c.of-lines.ensures, sym c.read.ensures) at c.in_ok-meaning.ensures.read in
    let whole = its_program text found.0 c.read.result means total ∙ sym (same_program c.read.result (meaning_in c.in_ok-meaning.meaning) found.0 found.2) in
    subst (λ r. Gives (λ code. code.items) c.short_program.result r) (sym whole) (rw c.deref.ensures.value at c.short_program.ensures)
