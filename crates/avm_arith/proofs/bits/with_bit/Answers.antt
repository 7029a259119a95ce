use Rattle.std.proofs.Common.{◌<◌, ◌+◌, ◌-◌, ◌*◌, ◌/◌, ◌%◌, ◌^◌, sym, subst, arith}
use Rattle.avm_ops.proofs.WithBit.{with_bit_fits}
use Rattle.avm_arith.proofs.bits.with_bit.Goals as goal

pub overflow_add-result : goal.overflow_add-result
overflow_add-result c =
    let below : c.args.number - c.args.number / c.unit-unit.result % 2 * c.unit-unit.result + c.args.bit * c.unit-unit.result < 2 ^ 64 =
    subst (λ p. c.args.number - c.args.number / p % 2 * p + c.args.bit * p < 2 ^ 64) (sym c.unit-unit.ensures)
    (with_bit_fits 64 c.args.k c.args.number c.args.bit c.requires.place (omega (arith, c.ranges.number.fits)) c.requires.bit) in
    omega (arith, below)
