use Rattle.std.proofs.Common.{◌<◌, [], length, get_or, sym, ◌∙◌, arith}
use Rattle.std.specs.List.{flat_map}
use Rattle.std.proofs.lemmas.List.{append-nil, get_or_default}
use Rattle.avm_ledger.specs.Encodings.{u64_bytes, u8_bytes}
use Rattle.teal_code.proofs.Appended.{at_first, goes_on, none_left, one_more}
use Rattle.avm_call_codec.proofs.writing.push_uints.Goals as goal

pub returns-in_err-put_short_count-clause-kept : goal.returns-in_err-put_short_count-clause-kept
returns-in_err-put_short_count-clause-kept c = ([], c.in_err-put_short_count.ensures.unchanged ∙ sym (append-nil _))

pub loop-number-init : goal.loop-number-init
loop-number-init c =
    let count = c.in_ok-put_short_count.ensures.written in
    (at_first c.args.bytes.now.items (u8_bytes (length c.args.numbers.now)) (flat_map u64_bytes c.args.numbers.now) _ count, (_, count))

pub returns-in_err-put_u64-clause-kept : goal.returns-in_err-put_u64-clause-kept
returns-in_err-put_u64-clause-kept c = (c.loop-number.invariant.1.0, c.in_err-put_u64.ensures.unchanged ∙ c.loop-number.invariant.1.1)

pub loop-number-preserved : goal.loop-number-preserved
loop-number-preserved c =
    let before = c.loop-number.bytes.items in
    let i = c.loop-number.number-index in
    let numbers = c.args.numbers.now in
    let x = get_or numbers i 0 in
    let within : i < length numbers = omega arith in
    let written = c.in_ok-put_u64.ensures.written in (
      one_more u64_bytes numbers i x before _ _ within (get_or_default numbers i 0 x within) c.loop-number.invariant.0 written,
      goes_on _ before _ c.loop-number.invariant.1 (_, written),
    )

pub returns-clause-written : goal.returns-clause-written
returns-clause-written c = none_left u64_bytes c.args.numbers.now c.loop-number.number-index _ _ (omega arith) c.loop-number.invariant.0
