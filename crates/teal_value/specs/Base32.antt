-- Base32 (RFC 4648, section 6) on lists: five bytes are eight groups of five bits, the highest bits first.
use Rattle.std.specs.Prelude.{◌≡◌, ◌⊎◌, ℕ, ◌+◌, ◌-◌, ◌*◌, ◌/◌, ◌%◌, ◌<◌, ◌==◌, Bool, ◌&&◌, ◌||◌, if◌then◌else◌, nat_lt, nat_le, List, [], ◌∷◌, ◌++◌, length, map, take, drop, codes, slice_index, Result, Ok, Err}
use Rattle.std.specs.List.{prefix_len}
use Rattle.std.specs.Str.{bytes_eq}
use Rattle.teal_value.specs.declared.base32.BadText.{BadText}

-- the character of a group: A to Z, then 2 to 7
abbrev pub symbol : ℕ → ℕ
symbol v = if nat_lt v 26 then 65 + v else 24 + v

-- the groups that bytes make, with zero bits after the last byte
unfoldable pub groups : List ℕ → List ℕ
groups [] = []
groups (a ∷ []) = a / 8 ∷ a % 8 * 4 ∷ []
groups (a ∷ b ∷ []) = a / 8 ∷ (a % 8 * 4 + b / 64) ∷ b / 2 % 32 ∷ b % 2 * 16 ∷ []
groups (a ∷ b ∷ c ∷ []) = a / 8 ∷ (a % 8 * 4 + b / 64) ∷ b / 2 % 32 ∷ (b % 2 * 16 + c / 16) ∷ c % 16 * 2 ∷ []
groups (a ∷ b ∷ c ∷ d ∷ []) = a / 8 ∷ (a % 8 * 4 + b / 64) ∷ b / 2 % 32 ∷ (b % 2 * 16 + c / 16) ∷ (c % 16 * 2 + d / 128) ∷ d / 4 % 32 ∷ d % 4 * 8 ∷ []
groups (a ∷ b ∷ c ∷ d ∷ e ∷ rest) = a / 8 ∷ (a % 8 * 4 + b / 64) ∷ b / 2 % 32 ∷ (b % 2 * 16 + c / 16) ∷ (c % 16 * 2 + d / 128) ∷ d / 4 % 32 ∷ (d % 4 * 8 + e / 32) ∷ e % 32 ∷ groups rest

-- the text of bytes, without padding
unfoldable pub base32 : List ℕ → List ℕ
base32 bytes = map symbol (groups bytes)

-- how many `=` fill up the last eight characters
abbrev pub padding_len : ℕ → ℕ
padding_len symbols = (8 - symbols % 8) % 8

abbrev pub padding : ℕ → List ℕ
padding symbols = take (padding_len symbols) (codes "========")

-- a text of bytes, with its padding complete or absent
abbrev pub IsBase32 : List ℕ → List ℕ → Type 0
IsBase32 text bytes = (text ≡ base32 bytes) ⊎ (text ≡ base32 bytes ++ padding (length (base32 bytes)))

abbrev pub IsBytes : List ℕ → Type 0
IsBytes bytes = (i : ℕ) → slice_index bytes i < 256

abbrev pub is_symbol : ℕ → Bool
is_symbol c = (nat_le 65 c && nat_le c 90) || (nat_le 50 c && nat_le c 55)

-- the group of a character
abbrev pub group_of : ℕ → ℕ
group_of c = if nat_le 65 c && nat_le c 90 then c - 65 else if nat_le 50 c && nat_le c 55 then c - 24 else 0

-- the bytes that groups fill: bits left over are dropped
unfoldable pub bytes_of_digits : List ℕ → List ℕ
bytes_of_digits (p ∷ q ∷ r ∷ s ∷ t ∷ u ∷ v ∷ w ∷ rest) = (p * 8 + q / 4) ∷ (q % 4 * 64 + r * 2 + s / 16) ∷ (s % 16 * 16 + t / 2) ∷ (t % 2 * 128 + u * 4 + v / 8) ∷ (v % 8 * 32 + w) ∷ bytes_of_digits rest
bytes_of_digits (p ∷ q ∷ r ∷ s ∷ t ∷ u ∷ v ∷ []) = (p * 8 + q / 4) ∷ (q % 4 * 64 + r * 2 + s / 16) ∷ (s % 16 * 16 + t / 2) ∷ (t % 2 * 128 + u * 4 + v / 8) ∷ []
bytes_of_digits (p ∷ q ∷ r ∷ s ∷ t ∷ []) = (p * 8 + q / 4) ∷ (q % 4 * 64 + r * 2 + s / 16) ∷ (s % 16 * 16 + t / 2) ∷ []
bytes_of_digits (p ∷ q ∷ r ∷ s ∷ []) = (p * 8 + q / 4) ∷ (q % 4 * 64 + r * 2 + s / 16) ∷ []
bytes_of_digits (p ∷ q ∷ []) = (p * 8 + q / 4) ∷ []
bytes_of_digits other = []

-- how many characters of the alphabet a text begins with
abbrev pub symbol_count : List ℕ → ℕ
symbol_count text = prefix_len is_symbol text

-- the bytes of the characters in front, which are the text's if it is one of their encodings
abbrev pub candidate : List ℕ → List ℕ
candidate text = bytes_of_digits (map group_of (take (symbol_count text) text))

-- what stands behind the characters of the alphabet: nothing or the padding
abbrev pub is_tail : ℕ → List ℕ → Bool
is_tail symbols rest = length rest == 0 || bytes_eq rest (padding symbols)

-- what a text reads as: bytes of which it is an encoding, or none
unfoldable pub base32_decoded : List ℕ → Result (List ℕ) BadText
base32_decoded text =
    if bytes_eq (take (symbol_count text) text) (base32 (candidate text)) && is_tail (symbol_count text) (drop (symbol_count text) text)
    then Ok (candidate text) else Err (record {})
