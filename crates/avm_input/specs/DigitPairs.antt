-- Pairs of digits, whose numbers are read without a test for each, and tested together by the greatest.
use Rattle.std.specs.Prelude.{◌≡◌, ℕ, ◌+◌, ◌*◌, ◌/◌, ◌%◌, ◌<◌, ◌≤◌, List, Some, None, slice_index}
use Rattle.hex.specs.Hex.{hex_digit_value}

-- a byte of two numbers
abbrev pub byte_of : ℕ → ℕ → ℕ
byte_of high low = (high * 16 % 256 + low) % 256

-- so many digits from a place on have these numbers, unless the greatest is 16 or more, which tells that one of them is no digit
pub record AreNumbers (digits : List ℕ) (place count : ℕ) (numbers : List ℕ) (most : ℕ) : Type 0 where
  pub same : most < 16 → (k : ℕ) → k < count → hex_digit_value (slice_index digits (place + k)) ≡ Some (slice_index numbers k)
  pub no_digit : 16 ≤ most → (k : ℕ) × (k < count) × (hex_digit_value (slice_index digits (place + k)) ≡ None)

-- so many words have a pair of the numbers each
pub record AreWords (numbers words : List ℕ) (count : ℕ) : Type 0 where
  pub high : (k : ℕ) → k < count → slice_index words k % 256 ≡ slice_index numbers (2 * k)
  pub low : (k : ℕ) → k < count → slice_index words k / 256 ≡ slice_index numbers (2 * k + 1)

-- so many bytes of the numbers from a place on, and those before it as they were
pub record DigitsAreWritten (numbers before bytes : List ℕ) (place count : ℕ) : Type 0 where
  pub bytes_there : (k : ℕ) → k < count → slice_index bytes (place + k) ≡ byte_of (slice_index numbers (2 * k)) (slice_index numbers (2 * k + 1))
  pub kept : (k : ℕ) → k < place → slice_index bytes k ≡ slice_index before k

-- the pair of digits at an index encodes a byte
abbrev pub IsEncoded : List ℕ → ℕ → ℕ → Type 0
IsEncoded digits k byte =
    (high : ℕ) × (low : ℕ) × (hex_digit_value (slice_index digits (2 * k)) ≡ Some high) × (hex_digit_value (slice_index digits (2 * k + 1)) ≡ Some low) × (byte ≡ byte_of high low)

-- so many pairs are read, unless the greatest number is 16 or more, which tells that one of them has no digit
pub record AreRead (digits bytes : List ℕ) (count most : ℕ) : Type 0 where
  pub read : most < 16 → (k : ℕ) → k < count → IsEncoded digits k (slice_index bytes k)
  pub no_digit : 16 ≤ most → (k : ℕ) × (k < 2 * count) × (hex_digit_value (slice_index digits k) ≡ None)
