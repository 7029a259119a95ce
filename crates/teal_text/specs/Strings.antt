-- Strings, byte by byte.
use Rattle.std.specs.Prelude.{ℕ, ◌+◌, ◌*◌, ◌==◌, Bool, false, ◌||◌, if◌then◌else◌, List, [], ◌∷◌, length, Option, Some, None}
use Rattle.std.specs.Option.{option_map}
use Rattle.std.specs.Char.{is_ascii_hexdigit, digit_value}
use Rattle.teal_text.specs.declared.string.StringState.{StringState}
use Rattle.teal_text.specs.declared.string.StringState.TheVariants.{Plain, Escape, TwoDigits, OneDigit}

-- what a `\` escapes alone: n, r, t, a `\` and a quotation mark
abbrev pub is_escape : ℕ → Bool
is_escape b = (((b == 110 || b == 114) || b == 116) || b == 92) || b == 34

-- where a byte of a string leads to, or None where no escape has it
abbrev pub next_state : StringState → ℕ → Option StringState
next_state Plain b = Some (if b == 92 then Escape else Plain)
next_state Escape b = if is_escape b then Some Plain else if b == 120 then Some TwoDigits else None
next_state TwoDigits b = if is_ascii_hexdigit b then Some (OneDigit b) else None
next_state (OneDigit high) b = if is_ascii_hexdigit b then Some Plain else None

-- the quotation mark that ends the string
abbrev pub closes : StringState → ℕ → Bool
closes Plain b = b == 34
closes Escape b = false
closes TwoDigits b = false
closes (OneDigit high) b = false

-- the byte that an escape of one character stands for: a line feed, a carriage return, a tab, or the character
abbrev pub escaped : ℕ → ℕ
escaped b = if b == 110 then 10 else if b == 114 then 13 else if b == 116 then 9 else b

abbrev pub hex_value : ℕ → ℕ
hex_value b = if is_ascii_hexdigit b then digit_value b else 0

-- the byte of the value that is complete with this byte of the text, if one is
abbrev pub byte_read : StringState → ℕ → Option ℕ
byte_read Plain b = if b == 92 then None else Some b
byte_read Escape b = if b == 120 then None else Some (escaped b)
byte_read TwoDigits b = None
byte_read (OneDigit high) b = Some (hex_value high * 16 + hex_value b)

abbrev pub push_front : Option ℕ → List ℕ → List ℕ
push_front None bytes = bytes
push_front (Some b) bytes = b ∷ bytes

abbrev pub value_from : Option ℕ → Option StringState → (StringState → Option (List ℕ)) → Option (List ℕ)
value_from byte None more = None
value_from byte (Some state) more = option_map (push_front byte) (more state)

-- the bytes of a string from a place on, if its end is the end of these
unfoldable pub string_value : StringState → List ℕ → Option (List ℕ)
string_value state [] = None
string_value state (b ∷ bs) =
    if closes state b then (if length bs == 0 then Some [] else None)
    else value_from (byte_read state b) (next_state state b) (λ next. string_value next bs)
