use Rattle.std.proofs.Common.{◌<◌, ◌++◌, length, ap, ◌∙◌, arith}
use Rattle.std.specs.List.{flat_map}
use Rattle.teal_code.specs.Varuint.{varuint}
use Rattle.teal_code.specs.Encoding.{prefixed}
use Rattle.teal_code.proofs.Appended.{at_first, goes_on, none_left, one_more}
use Rattle.teal_code.proofs.encode.push_strings.Goals as goal

pub loop-string-init : goal.loop-string-init
loop-string-init c =
    let count = c.in_ok-push_varuint.ensures.written in
    (at_first c.args.code.now.items (varuint (length c.args.strings.now)) (flat_map prefixed c.args.strings.now) _ count, (_, count))

pub returns-in_err-push_prefixed-clause-kept : goal.returns-in_err-push_prefixed-clause-kept
returns-in_err-push_prefixed-clause-kept c = goes_on _ c.loop-string.code.items _ c.loop-string.invariant.1 c.in_err-push_prefixed.ensures.kept

pub loop-string-preserved : goal.loop-string-preserved
loop-string-preserved c =
    let before = c.loop-string.code.items in
    let i = c.loop-string.string-index in
    let within : i < length c.args.strings.now = omega arith in
    let written = c.in_ok-push_prefixed.ensures.written ∙ ap (λ s. before ++ prefixed s) c.as_slice.ensures in (
      one_more prefixed c.args.strings.now i c.string-item.result before _ _ within c.string-item.is c.loop-string.invariant.0 written,
      goes_on _ before _ c.loop-string.invariant.1 c.in_ok-push_prefixed.ensures.kept,
    )

pub returns-clause-written : goal.returns-clause-written
returns-clause-written c = none_left prefixed c.args.strings.now c.loop-string.string-index _ _ (omega arith) c.loop-string.invariant.0
