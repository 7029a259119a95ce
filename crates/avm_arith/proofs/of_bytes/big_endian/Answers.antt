use Rattle.std.proofs.Common.{◌<◌, ◌≤◌, arith}
use Rattle.std.proofs.Math.Nat.{pow-le-pow_right}
use Rattle.avm_arith.proofs.of_bytes.big_endian.Goals as goal

pub overflow_mul-number : goal.overflow_mul-number
overflow_mul-number c =
    let positive : 0 < 256 = omega arith in
    let within : c.loop-byte.byte-index ≤ 7 = omega arith in
    let bound = pow-le-pow_right {n = 256} positive within in
    omega (arith, bound, c.loop-byte.invariant.below)
