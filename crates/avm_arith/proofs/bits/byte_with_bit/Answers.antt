use Rattle.std.proofs.Common.{◌<◌, ◌^◌, sym, ap, subst, arith, ◌∙◌}
use Rattle.avm_ops.specs.ByteStrings.{with_bit}
use Rattle.avm_ops.proofs.WithBit.{with_bit_fits}
use Rattle.avm_arith.proofs.bits.byte_with_bit.Goals as goal

pub overflow_cast-result : goal.overflow_cast-result
overflow_cast-result c =
    let below : c.with_bit.result < 2 ^ 8 =
    subst (λ n. n < 2 ^ 8) (sym (c.with_bit.ensures ∙ ap (λ n. with_bit n c.args.k c.args.bit) c.from.ensures))
    (with_bit_fits 8 c.args.k c.args.byte c.args.bit c.requires.place (omega (arith, c.ranges.byte.fits)) c.requires.bit) in
    omega (arith, below)
