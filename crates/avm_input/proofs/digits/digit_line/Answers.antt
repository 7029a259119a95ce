use Rattle.std.proofs.Common.{subst, sym, true≢false}
use Rattle.std.specs.Str.{IsUtf8}
use Rattle.std.specs.Prelude.{IsOk}
use Rattle.avm_input.proofs.WrittenDigits.{line_is_text}
use Rattle.avm_input.proofs.digits.digit_line.Goals as goal

pub unreachable-requires : goal.unreachable-requires
unreachable-requires c =
    let ok = c.from_utf8.ensures.succeeds (subst IsUtf8 (sym c.in_ok-digit_line_bytes.ensures) (line_is_text c.args.bytes.now)) in
    true≢false (sym (subst IsOk c.in-Err.is ok))
