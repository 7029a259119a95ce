-- Reading a numeral from left to right.
use Rattle.std.proofs.Common.{◌≡◌, ℕ, suc, ◌+◌, ◌*◌, ◌^◌, ◌<◌, ◌≤◌, Bool, true, false, ltb, cond, ◌&&◌, List, [], ◌∷◌, length, Option, Some, None, refl, ◌∙◌, add-one, drop, drop-cons, get_or, inl, inr, arith}
use Rattle.std.proofs.Math.Nat.{le-mul_of_pos_right}
use Rattle.std.proofs.lemmas.Bool.{cases_lt}
use Rattle.std.proofs.lemmas.Bool.Decides.{nat_tests}
use Rattle.std.specs.List.{list_all}
use Rattle.std.specs.Char.{digit_value, is_digit}
use Rattle.std.specs.Str.Parse.{digits_value_after}
use Rattle.teal_text.specs.Numbers.{numeral_value}

-- the number that digits write behind those of n, if it is below 2^64
unfoldable pub value_after : ℕ → ℕ → List ℕ → Option ℕ
value_after base n ds = cond (list_all (λ c. is_digit c base) ds && ltb (digits_value_after base n ds) (2 ^ 64)) (Some (digits_value_after base n ds)) None

grows : (base n : ℕ) (ds : List ℕ) → 0 < base → n ≤ digits_value_after base n ds
grows base n [] h = omega arith
grows base n (d ∷ ds) h =
    let more = grows base (n * base + digit_value d) ds h in
    let times : n ≤ n * base = le-mul_of_pos_right n h in
    omega arith

-- behind nothing, digits write the value of their numeral
pub begins : (base : ℕ) (ds : List ℕ) → 0 < length ds → value_after base 0 ds ≡ numeral_value base ds
unfolding value_after numeral_value
begins base ds some =
    let test : ltb 0 (length ds) ≡ true = grind (arith, nat_tests) in
    rw test refl

pub ends : (base n : ℕ) → n < 2 ^ 64 → value_after base n [] ≡ Some n
unfolding value_after
ends base n small =
    let test : ltb n (2 ^ 64) ≡ true = grind (arith, nat_tests) in
    rw test refl

-- a digit is added to the number times the base
pub goes_on : (base n d : ℕ) (ds : List ℕ) → digit_value d < base → value_after base n (d ∷ ds) ≡ value_after base (n * base + digit_value d) ds
unfolding value_after
goes_on base n d ds h =
    let test : ltb (digit_value d) base ≡ true = grind (arith, nat_tests) in
    rw test refl

-- a character that is no digit of the base leaves no number
pub refused : (base n d : ℕ) (ds : List ℕ) → base ≤ digit_value d → value_after base n (d ∷ ds) ≡ None
unfolding value_after
refused base n d ds h =
    let test : ltb (digit_value d) base ≡ false = grind (arith, nat_tests) in
    rw test refl

no_more : (b : Bool) (o : Option ℕ) → cond (b && false) o None ≡ None
no_more true o = refl
no_more false o = refl

-- a number that has reached 2^64 is too large, whatever follows
pub too_large : (base n : ℕ) (ds : List ℕ) → 0 < base → 2 ^ 64 ≤ n → value_after base n ds ≡ None
unfolding value_after
too_large base n ds some large =
    let more = grows base n ds some in
    let test : ltb (digits_value_after base n ds) (2 ^ 64) ≡ false = grind (arith, nat_tests) in
    rw test (no_more _ _)

-- the digit at an index is added to the number times the base
pub goes_on_at : (base n d i : ℕ) (ds : List ℕ) → i < length ds → d ≡ digit_value (get_or ds i 0) → d < base → value_after base n (drop i ds) ≡ value_after base (n * base + d) (drop (i + 1) ds)
goes_on_at base n d i ds h e lt = rw (e, add-one, drop-cons ds i 0 h) (goes_on base n (get_or ds i 0) (drop (suc i) ds) (rw (← e) lt))

pub refused_at : (base n i : ℕ) (ds : List ℕ) → i < length ds → base ≤ digit_value (get_or ds i 0) → value_after base n (drop i ds) ≡ None
refused_at base n i ds h le = rw (drop-cons ds i 0 h) (refused base n (get_or ds i 0) (drop (suc i) ds) le)

pub too_large_at : (base n i : ℕ) (ds : List ℕ) → i < length ds → 0 < base → 2 ^ 64 ≤ n * base + digit_value (get_or ds i 0) → value_after base n (drop i ds) ≡ None
too_large_at base n i ds h some large =
    elim (cases_lt (digit_value (get_or ds i 0)) base) [
      | inl lt ↦ goes_on_at base n _ i ds h refl lt ∙ too_large base _ (drop (i + 1) ds) some large
      | inr le ↦ refused_at base n i ds h le
    ]

pub none_without_digits : (base : ℕ) (ds : List ℕ) → length ds ≡ 0 → numeral_value base ds ≡ None
unfolding numeral_value
none_without_digits base [] e = refl
none_without_digits base (d ∷ ds) e = absurd (omega arith)
