-- The digits of a block of bytes.
use Rattle.std.specs.Prelude.{◌≡◌, ℕ, ◌+◌, ◌*◌, ◌/◌, ◌%◌, ◌<◌, List, slice_index}
use Rattle.hex.specs.Hex.{lower_digits}

-- the digit of a number below 16
abbrev pub digit_of : ℕ → ℕ
digit_of n = slice_index lower_digits n

-- the first so many bytes have their two halves each, and all numbers are below 16
pub record AreHalves (bytes halves : List ℕ) (count : ℕ) : Type 0 where
  pub high : (k : ℕ) → k < count → slice_index halves (2 * k) ≡ slice_index bytes k / 16
  pub low : (k : ℕ) → k < count → slice_index halves (2 * k + 1) ≡ slice_index bytes k % 16
  pub below : (k : ℕ) → slice_index halves k < 16

-- the first so many numbers have their digits
abbrev pub AreDigits : List ℕ → List ℕ → ℕ → Type 0
AreDigits halves digits count = (k : ℕ) → k < count → slice_index digits k ≡ digit_of (slice_index halves k)
