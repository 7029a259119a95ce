-- The numbers of all bytes, which are found by computing each.
use Rattle.std.proofs.Common.{Bool, true, false, ◌&&◌, not, nat_eq, nat_lt, ◌≡◌, ◌∙◌, ap, sym, refl, true≢false, zero-add, ℕ, ◌+◌, ◌-◌, ◌%◌, ◌<◌, Option, Some, None, arith, bit_or}
use Rattle.std.specs.List.{list_all, range_with_len}
use Rattle.std.specs.Option.{SomeIff}
use Rattle.std.specs.Prelude.{min}
use Rattle.std.proofs.lemmas.List.Folds.{list_all_at}
use Rattle.std.proofs.lemmas.List.FromFn.{get_or-range_with_len, length-range_with_len}
use Rattle.hex.specs.Hex.{hex_digit_value}

-- the number of a byte: 16 or more where the byte is no digit
abbrev pub number_of : ℕ → ℕ
number_of c = min (((c + 198) % 256 - 6 + 16) % 256) (min ((bit_or c 32 + 159) % 256 + 10) 255)

abbrev is_right : Option ℕ → ℕ → Bool
is_right (Some v) number = nat_lt number 16 && nat_eq v number
is_right None number = not (nat_lt number 16)

all_right : list_all (λ c. is_right (hex_digit_value c) (number_of c)) (range_with_len 0 256) ≡ true
all_right = refl

-- what computes to true for every number below a bound
one_right : (p : ℕ → Bool) (n c : ℕ) (b : Bool) → p c ≡ b → c < n → list_all p (range_with_len 0 n) ≡ true → p c ≡ true
one_right p n c true e lt all = e
one_right p n c false e lt all =
    let there = get_or-range_with_len 0 n c 0 lt ∙ zero-add c in
    let no = list_all_at p (range_with_len 0 n) c 0 (omega (arith, lt, length-range_with_len 0 n)) (ap p there ∙ e) in
    absurd (true≢false (sym all ∙ no))

is_number : (o : Option ℕ) (number : ℕ) → is_right o number ≡ true → SomeIff o (number < 16) number
is_number (Some v) number e = search (arith, e)
is_number None number e = λ lt. absurd (search (arith, e, lt))

-- a byte's number
pub number_of-is : (c number : ℕ) → c < 256 → number ≡ number_of c → SomeIff (hex_digit_value c) (number < 16) number
number_of-is c number lt e = rw e (is_number (hex_digit_value c) (number_of c) (one_right (λ c. is_right (hex_digit_value c) (number_of c)) 256 c _ refl lt all_right))
