use Rattle.std.proofs.Common.{arith, subst}
use Rattle.avm_input.specs.BlockDigits.{AreDigits}
use Rattle.avm_input.proofs.WrittenDigits.{all_digits}
use Rattle.avm_input.proofs.digits.block_digits.Goals as goal

pub returns : goal.returns
returns c =
    let (len, are) = c.digits.invariant in
    all_digits c.args.bytes.now c.block_halves-halves.result c.digits.digits 32 c.requires len c.block_halves-halves.ensures (subst (AreDigits c.block_halves-halves.result c.digits.digits) (omega (arith, c.digits-test.false)) are)
