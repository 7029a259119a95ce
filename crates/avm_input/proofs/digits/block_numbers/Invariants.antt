use Rattle.std.proofs.Common.{◌≡◌, length}
use Rattle.avm_input.specs.DigitPairs.{AreNumbers}
use Rattle.avm_input.proofs.digits.block_numbers.Given as goal

abbrev pub invariant-digits : goal.invariant-digits
invariant-digits l = (length l.numbers ≡ 64) × AreNumbers l.digits l.place l.i l.numbers l.most
