use Rattle.avm_input.specs.DigitPairs.{DigitsAreWritten}
use Rattle.avm_input.proofs.digits.put_pairs.Given as goal

abbrev pub invariant-words : goal.invariant-words
invariant-words l = DigitsAreWritten l.numbers l.fn.bytes l.bytes l.start l.i
