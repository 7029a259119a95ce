use Rattle.std.proofs.Common.{◌≡◌, length}
use Rattle.avm_input.specs.BlockDigits.{AreHalves}
use Rattle.avm_input.proofs.digits.block_halves.Given as goal

abbrev pub invariant-bytes : goal.invariant-bytes
invariant-bytes l = (length l.halves ≡ 64) × AreHalves l.bytes l.halves l.i
