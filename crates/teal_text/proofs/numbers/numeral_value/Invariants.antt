use Rattle.std.proofs.Common.{◌≡◌, ◌<◌, ◌^◌, drop}
use Rattle.teal_text.specs.Numbers.{numeral_value}
use Rattle.teal_text.proofs.Numerals.{value_after}
use Rattle.teal_text.proofs.numbers.numeral_value.Given as goal

abbrev pub invariant-loop-digit : goal.invariant-loop-digit
invariant-loop-digit l = record {
  fits : l.value < 2 ^ 64;
  same : value_after l.base l.value (drop l.digit-index l.digits) ≡ numeral_value l.base l.digits;
}
