use Rattle.std.proofs.Common.{◌<◌, length, get_or, arith}
use Rattle.std.specs.List.{flat_map}
use Rattle.std.proofs.lemmas.List.{get_or_default}
use Rattle.teal_code.specs.Varuint.{varuint}
use Rattle.teal_code.proofs.Appended.{at_first, goes_on, none_left, one_more}
use Rattle.teal_code.proofs.encode.push_uints.Goals as goal

pub loop-number-init : goal.loop-number-init
loop-number-init c =
    let count = c.in_ok-push_varuint.ensures.written in
    (at_first c.args.code.now.items (varuint (length c.args.numbers.now)) (flat_map varuint c.args.numbers.now) _ count, (_, count))

pub returns-in_err-push_varuint-2-clause-kept : goal.returns-in_err-push_varuint-2-clause-kept
returns-in_err-push_varuint-2-clause-kept c = goes_on _ c.loop-number.code.items _ c.loop-number.invariant.1 c.in_err-push_varuint-2.ensures.kept

pub loop-number-preserved : goal.loop-number-preserved
loop-number-preserved c =
    let before = c.loop-number.code.items in
    let i = c.loop-number.number-index in
    let numbers = c.args.numbers.now in
    let x = get_or numbers i 0 in
    let within : i < length numbers = omega arith in (
      one_more varuint numbers i x before _ _ within (get_or_default numbers i 0 x within) c.loop-number.invariant.0 c.in_ok-push_varuint-2.ensures.written,
      goes_on _ before _ c.loop-number.invariant.1 c.in_ok-push_varuint-2.ensures.kept,
    )

pub returns-clause-written : goal.returns-clause-written
returns-clause-written c = none_left varuint c.args.numbers.now c.loop-number.number-index _ _ (omega arith) c.loop-number.invariant.0
