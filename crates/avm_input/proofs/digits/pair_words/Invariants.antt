use Rattle.std.proofs.Common.{◌≡◌, length}
use Rattle.avm_input.specs.DigitPairs.{AreWords}
use Rattle.avm_input.proofs.digits.pair_words.Given as goal

abbrev pub invariant-pairs : goal.invariant-pairs
invariant-pairs l = (length l.words ≡ 32) × AreWords l.numbers l.words l.i
