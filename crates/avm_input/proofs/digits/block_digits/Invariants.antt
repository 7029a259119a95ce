use Rattle.std.proofs.Common.{◌≡◌, length}
use Rattle.avm_input.specs.BlockDigits.{AreDigits}
use Rattle.avm_input.proofs.digits.block_digits.Given as goal

abbrev pub invariant-digits : goal.invariant-digits
invariant-digits l = (length l.digits ≡ 64) × AreDigits l.halves l.digits l.i
