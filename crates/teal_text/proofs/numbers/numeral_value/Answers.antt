use Rattle.std.proofs.Common.{◌≡◌, ◌≤◌, ◌+◌, ◌*◌, ◌^◌, get_or, lit<, sym, ◌∙◌, arith}
use Rattle.std.proofs.lemmas.Bool.Decides.{nat_tests}
use Rattle.std.proofs.lemmas.List.{drop_all}
use Rattle.std.specs.Char.{digit_value}
use Rattle.teal_text.proofs.Numerals.{begins, ends, goes_on_at, refused_at, too_large_at, none_without_digits}
use Rattle.teal_text.proofs.numbers.numeral_value.Goals as goal

pub returns-then-is_empty : goal.returns-then-is_empty
returns-then-is_empty c = sym (none_without_digits c.args.base c.args.digits.now (grind (arith, nat_tests)))

pub loop-digit-init : goal.loop-digit-init
loop-digit-init c = record { fits = lit< tt; same = begins c.args.base c.args.digits.now (grind (arith, nat_tests)) }

pub returns-in_err-digit : goal.returns-in_err-digit
returns-in_err-digit c =
    let le : c.args.base ≤ digit_value (get_or c.args.digits.now c.loop-digit.digit-index 0) = rw (← c.from.ensures) (omega (arith, c.in_err-digit.ensures.value)) in
    c.from_residual.ensures ∙ sym (refused_at c.args.base c.loop-digit.value c.loop-digit.digit-index c.args.digits.now c.loop-digit-test.true le) ∙ c.loop-digit.invariant.same

pub returns-in_err-checked_mul : goal.returns-in_err-checked_mul
returns-in_err-checked_mul c =
    let large : 2 ^ 64 ≤ c.loop-digit.value * c.args.base + digit_value (get_or c.args.digits.now c.loop-digit.digit-index 0) = omega (arith, rw c.from-in-loop-digit.ensures at c.in_err-checked_mul.ensures) in
    c.from_residual-in_err-checked_mul.ensures ∙ sym (too_large_at c.args.base c.loop-digit.value c.loop-digit.digit-index c.args.digits.now c.loop-digit-test.true (omega (arith, c.requires)) large) ∙ c.loop-digit.invariant.same

pub returns-in_err-value : goal.returns-in_err-value
returns-in_err-value c =
    let d : c.in_ok-digit.digit ≡ digit_value (get_or c.args.digits.now c.loop-digit.digit-index 0) = rw (← c.from.ensures) c.in_ok-digit.ensures.value.1 in
    let product : c.in_ok-checked_mul.field-0 ≡ c.loop-digit.value * c.args.base = rw (← c.from-in-loop-digit.ensures) c.in_ok-checked_mul.ensures.1 in
    let large : 2 ^ 64 ≤ c.loop-digit.value * c.args.base + digit_value (get_or c.args.digits.now c.loop-digit.digit-index 0) = rw (← product, ← d, ← c.from-in-loop-digit-2.ensures) (omega (arith, c.in_err-value.ensures)) in
    c.from_residual-in_err-value.ensures ∙ sym (too_large_at c.args.base c.loop-digit.value c.loop-digit.digit-index c.args.digits.now c.loop-digit-test.true (omega (arith, c.requires)) large) ∙ c.loop-digit.invariant.same

pub loop-digit-preserved : goal.loop-digit-preserved
loop-digit-preserved c =
    let d : c.in_ok-digit.digit ≡ digit_value (get_or c.args.digits.now c.loop-digit.digit-index 0) = rw (← c.from.ensures) c.in_ok-digit.ensures.value.1 in
    let product : c.in_ok-checked_mul.field-0 ≡ c.loop-digit.value * c.args.base = rw (← c.from-in-loop-digit.ensures) c.in_ok-checked_mul.ensures.1 in
    let value : c.in_ok-value.value ≡ c.loop-digit.value * c.args.base + c.in_ok-digit.digit = rw (← product, ← c.from-in-loop-digit-2.ensures) c.in_ok-value.ensures.1 in
    record { fits = omega (arith, c.in_ok-value.ensures); same = rw value (sym (goes_on_at c.args.base c.loop-digit.value c.in_ok-digit.digit c.loop-digit.digit-index c.args.digits.now c.loop-digit-test.true d (omega (arith, c.in_ok-digit.ensures.value))) ∙ c.loop-digit.invariant.same) }

pub returns : goal.returns
returns c =
    let over = drop_all c.loop-digit.digit-index c.args.digits.now (omega (arith, c.loop-digit-test.false)) in
    sym (ends c.args.base c.loop-digit.value c.loop-digit.invariant.fits) ∙ rw over at c.loop-digit.invariant.same
