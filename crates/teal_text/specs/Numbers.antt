-- The numbers of source text.
use Rattle.std.specs.Prelude.{ℕ, Bool, ◌==◌, ◌^◌, ◌&&◌, ◌||◌, nat_lt, if◌then◌else◌, List, ◌∷◌, length, Option, Some, None}
use Rattle.std.specs.List.{list_all}
use Rattle.std.specs.Char.{is_digit}
use Rattle.std.specs.Str.Parse.{digits_value}

-- hexadecimal behind `0x` or `0X`, octal behind another 0, and else decimal
unfoldable pub base_of : List ℕ → ℕ
base_of (a ∷ b ∷ more) = if a == 48 then (if b == 120 || b == 88 then 16 else 8) else 10
base_of word = 10

unfoldable pub digits_of : List ℕ → List ℕ
digits_of (a ∷ b ∷ more) = if a == 48 then (if b == 120 || b == 88 then more else b ∷ more) else a ∷ b ∷ more
digits_of word = word

-- one digit of the base or more, and nothing else
abbrev pub is_numeral : ℕ → List ℕ → Bool
is_numeral base word = nat_lt 0 (length word) && list_all (λ c. is_digit c base) word

-- the number that digits write, where they write one below 2^64
unfoldable pub numeral_value : ℕ → List ℕ → Option ℕ
numeral_value base word = if is_numeral base word && nat_lt (digits_value base word) (2 ^ 64) then Some (digits_value base word) else None

-- the number that a word writes
abbrev pub number_of : List ℕ → Option ℕ
number_of word = numeral_value (base_of word) (digits_of word)
