-- The byte literals of source text.
use Rattle.std.specs.Prelude.{◌≡◌, ◌⊎◌, ℕ, ◌-◌, ◌==◌, Bool, ◌&&◌, ◌||◌, if◌then◌else◌, nat_eq, nat_lt, List, length, take, drop, codes, slice_index, Option, Some, None}
use Rattle.std.specs.List.{position_or_len, starts_with}
use Rattle.std.specs.Str.{bytes_eq}
use Rattle.std.specs.Result.{result_ok}
use Rattle.base64.specs.Engines.{standard, standard_no_pad}
use Rattle.base64.specs.GeneralPurpose as base64
use Rattle.hex.specs.Hex as hex
use Rattle.teal_value.specs.Base32.{base32_decoded}
use Rattle.teal_value.specs.Choice.{or_else}
use Rattle.teal_text.specs.declared.string.StringState.TheVariants.{Plain}
use Rattle.teal_text.specs.Tokens.{is_base64_name}
use Rattle.teal_text.specs.Strings.{string_value}

-- a text of bytes in base64 of the standard alphabet, with its padding complete or absent
abbrev pub IsBase64 : List ℕ → List ℕ → Type 0
IsBase64 text bytes = (text ≡ base64.encode_of standard bytes) ⊎ (text ≡ base64.encode_of standard_no_pad bytes)

-- the bytes of which a text is such an encoding
unfoldable pub base64_bytes : List ℕ → Option (List ℕ)
base64_bytes text = or_else (result_ok (base64.decode_of standard text)) (result_ok (base64.decode_of standard_no_pad text))

abbrev pub is_base32_name : List ℕ → Bool
is_base32_name word = bytes_eq word (codes "base32") || bytes_eq word (codes "b32")

-- the words that take a text behind them
unfoldable pub names_encoding : List ℕ → Bool
names_encoding word = is_base64_name word || is_base32_name word

-- the bytes that a text is in the encoding of this name
unfoldable pub encoded_bytes : List ℕ → List ℕ → Option (List ℕ)
encoded_bytes name text =
    if is_base64_name name then base64_bytes text
    else if is_base32_name name then result_ok (base32_decoded text) else None

-- what stands between two parentheses
unfoldable pub enclosed : List ℕ → Option (List ℕ)
enclosed text =
    if nat_lt 1 (length text) && slice_index text 0 == 40 && slice_index text (length text - 1) == 41
    then Some (take (length text - 2) (drop 1 text)) else None

abbrev pub is_parenthesis : ℕ → Bool
is_parenthesis b = b == 40

abbrev pub encoded_in : List ℕ → Option (List ℕ) → Option (List ℕ)
encoded_in name None = None
encoded_in name (Some text) = encoded_bytes name text

-- the bytes of a text that stands in parentheses behind the name of its encoding, in one word
unfoldable pub enclosed_bytes : List ℕ → Option (List ℕ)
enclosed_bytes word = encoded_in (take (position_or_len is_parenthesis word) word) (enclosed (drop (position_or_len is_parenthesis word) word))

-- the bytes of a literal that is one token: hexadecimal behind `0x`, a string, or an encoded text in parentheses
unfoldable pub token_bytes : List ℕ → Option (List ℕ)
token_bytes word =
    if starts_with nat_eq word (codes "0x") then result_ok (hex.decode_of (drop 2 word))
    else if starts_with nat_eq word (codes "\"") then string_value Plain (drop 1 word)
    else enclosed_bytes word

-- the bytes of a literal, whose second token is the text behind the name of an encoding
abbrev pub literal_bytes : List ℕ → Option (List ℕ) → Option (List ℕ)
literal_bytes first None = token_bytes first
literal_bytes first (Some text) = encoded_bytes first text
