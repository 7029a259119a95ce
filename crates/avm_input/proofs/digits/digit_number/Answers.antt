use Rattle.std.proofs.Common.{◌∙◌, refl}
use Rattle.avm_input.proofs.DigitNumbers.{number_of-is}
use Rattle.avm_input.proofs.digits.digit_number.Goals as goal

pub returns : goal.returns
returns c = number_of-is c.args.digit _ c.ranges.digit.fits (c.min.ensures ∙ rw (c.saturating_sub-number.ensures, c.saturating_add-letter.ensures) refl)
