use Rattle.std.proofs.Common.{◌<◌, ◌++◌, [], length, sym, ap, ◌∙◌, arith}
use Rattle.std.specs.List.{flat_map}
use Rattle.std.proofs.lemmas.List.{append-nil}
use Rattle.avm_ledger.specs.Encodings.{string_bytes, u8_bytes}
use Rattle.teal_code.proofs.Appended.{at_first, goes_on, none_left, one_more}
use Rattle.avm_call_codec.proofs.writing.push_strings.Goals as goal

pub returns-in_err-put_short_count-clause-kept : goal.returns-in_err-put_short_count-clause-kept
returns-in_err-put_short_count-clause-kept c = ([], c.in_err-put_short_count.ensures.unchanged ∙ sym (append-nil _))

pub loop-string-init : goal.loop-string-init
loop-string-init c =
    let count = c.in_ok-put_short_count.ensures.written in
    (at_first c.args.bytes.now.items (u8_bytes (length c.args.strings.now)) (flat_map string_bytes c.args.strings.now) _ count, (_, count))

pub returns-in_err-put_string-clause-kept : goal.returns-in_err-put_string-clause-kept
returns-in_err-put_string-clause-kept c = (c.loop-string.invariant.1.0, c.in_err-put_string.ensures.unchanged ∙ c.loop-string.invariant.1.1)

pub loop-string-preserved : goal.loop-string-preserved
loop-string-preserved c =
    let before = c.loop-string.bytes.items in
    let i = c.loop-string.string-index in
    let within : i < length c.args.strings.now = omega arith in
    let written = c.in_ok-put_string.ensures.written ∙ ap (λ s. before ++ string_bytes s) c.as_slice.ensures in (
      one_more string_bytes c.args.strings.now i c.string-item.result before _ _ within c.string-item.is c.loop-string.invariant.0 written,
      goes_on _ before _ c.loop-string.invariant.1 (_, written),
    )

pub returns-clause-written : goal.returns-clause-written
returns-clause-written c = none_left string_bytes c.args.strings.now c.loop-string.string-index _ _ (omega arith) c.loop-string.invariant.0
