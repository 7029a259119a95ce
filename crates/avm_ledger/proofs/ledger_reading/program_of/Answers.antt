use Rattle.std.proofs.Common.{◌≡◌, Ok, sym, ap, ◌∙◌}
use Rattle.std.specs.Prelude.{is_ok}
use Rattle.teal_value.specs.Answer.{◌>>=◌}
use Rattle.teal_check.specs.WellFormed.{checked}
use Rattle.teal_check.proofs.CheckedPrograms.{is_kept}
use Rattle.avm_ledger.specs.LedgerReader.{program_at, tested}
use Rattle.avm_ledger.proofs.ledger_reading.program_of.Goals as goal

pub returns-in-Ok : goal.returns-in-Ok
returns-in-Ok c =
    let text = c.in_ok-bytes.bytes.now in
    let rest = c.in_ok-bytes.rest in
    let same = c.new.ensures ∙ (is_kept text c.in-Ok.program c.in-Ok.ensures).same in
    let read : program_at c.args.fields ≡ Ok (text, rest) =
    ap (λ r. r >>= λ p. tested (is_ok (checked p.0)) p) c.in_ok-bytes.ensures ∙ ap (λ k. tested (is_ok k) (text, rest)) c.in-Ok.ensures in
    read ∙ ap (λ b. Ok (b, rest)) (sym same)
