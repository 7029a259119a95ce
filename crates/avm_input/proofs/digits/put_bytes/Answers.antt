use Rattle.std.proofs.Common.{refl, arith}
use Rattle.avm_input.proofs.ReadPairs.{all_read}
use Rattle.avm_input.proofs.digits.put_bytes.Goals as goal

pub returns : goal.returns
returns c =
    let (len, fits, are) = c.loop-i.invariant in
    all_read c.args.digits.now c.loop-i.bytes c.loop-i.i c.loop-i.most _ (omega (arith, fits, c.loop-i-test.false)) (omega (arith, c.requires, len)) refl are
