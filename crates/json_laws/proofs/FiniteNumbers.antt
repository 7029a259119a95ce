-- The numbers of documents are within the range of doubles.
use Rattle.std.proofs.Common.{◌≡◌, ◌≢◌, ℕ, zero, suc, ◌-◌, ◌*◌, ◌/◌, ◌%◌, ◌^◌, ◌<◌, ◌≤◌, Bool, true, false, get_or, Some, refl, sym, ap, ◌∙◌, subst, arith}
use Rattle.std.specs.Prelude.{decimal}
use Rattle.std.specs.Float.{Float, nan, inf, fin, binary64, float_is_finite}
use Rattle.std.specs.Float.Parse.{parse_float}
use Rattle.std.specs.Str.Parse.{IsNumeral, digits_value}
use Rattle.std.proofs.lemmas.Float.Parse.{parse_float-IsNumeral}
use Rattle.std.proofs.lemmas.Fmt.{decimal_digit, decimal_is_IsNumeral, first_decimal}
use Rattle.std.proofs.lemmas.Str.Parse.{without_leading_plus_none}
use Rattle.std.proofs.Math.Nat.{div-div-eq-div-mul, div-one, le_trans, lt_of_le_of_lt, mul-le-mul, mul-lt-mul_of_pos_right}
use Rattle.std.proofs.Math.Pow.{pow_mono}
use Prim.Native.Nat.{compare}
use lib.IntN.{pos}
use lib.Ieee.{nearest, of_int, size}
use lib.Ieee.Digits.{size-le}
use lib.Ieee.Exact.{HasValue, units_val}
use lib.Ieee.Fits.{kept-lt, nearest-le, round_is}
use Rattle.json_documents.specs.Reading.{is_finite}

finite : (x : Float) (s : Bool) (a c : ℕ) → HasValue x s a c → float_is_finite x ≡ true
unfolding float_is_finite
finite nan s a c h = absurd h
finite (inf t) s a c h = absurd h
finite (fin t m e) s a c h = refl

rounded : (n : ℕ) → n < 2 ^ 64 → float_is_finite (of_int binary64 (pos n)) ≡ true
unfolding of_int
rounded n small =
    let m = n * 2 ^ 1074 in
    let k = size (m / 1) - 53 in
    let q = nearest (m / (1 * 2 ^ k)) (compare (m % (1 * 2 ^ k) * 2) (1 * 2 ^ k)) in
    let whole : m / 1 < 2 ^ 1138 = subst (λ x. x < 2 ^ 1138) (sym (div-one m)) (mul-lt-mul_of_pos_right small (omega arith)) in
    let places : k ≤ 1085 = omega (arith, size-le (m / 1) 1138 whole) in
    let kept : m / (1 * 2 ^ k) < 2 ^ 53 = subst (λ x. x < 2 ^ 53) (div-div-eq-div-mul m 1 (2 ^ k)) (kept-lt 53 (m / 1)) in
    let few : q ≤ 2 ^ 53 = le_trans (nearest-le (m / (1 * 2 ^ k)) (compare (m % (1 * 2 ^ k) * 2) (1 * 2 ^ k))) kept in
    let below : q * 2 ^ k < 2 ^ 2098 = lt_of_le_of_lt (mul-le-mul few (pow_mono places)) (omega arith) in
    ap float_is_finite (round_is binary64 false n 1) ∙ finite _ false _ _ (units_val binary64 false q k below)

no_plus : (n : ℕ) → n < 2 ^ 64 → get_or (decimal n) 0 0 ≢ 43
no_plus zero small e = let is : get_or (decimal 0) 0 0 ≡ 48 = ap (λ s. get_or s 0 0) (decimal_digit 0 (omega arith)) in omega arith
no_plus (suc n) small e = let first = first_decimal (suc n) (omega arith) small in omega arith

-- a number below 2^64 is finite as a double
pub number_finite : (n : ℕ) → n < 2 ^ 64 → is_finite (parse_float binary64 (decimal n)) ≡ true
number_finite n small =
    let plain = without_leading_plus_none (decimal n) (no_plus n small) in
    let numeral = decimal_is_IsNumeral n small in
    let parsed = parse_float-IsNumeral binary64 (decimal n) (subst (IsNumeral 10) (sym plain) numeral.0) in
    ap is_finite (parsed ∙ ap (λ s. Some (of_int binary64 (pos (digits_value 10 s)))) plain ∙ ap (λ m. Some (of_int binary64 (pos m))) numeral.1) ∙ rounded n small
