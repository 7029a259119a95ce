-- Inputs of lines of hexadecimal digits.
use Rattle.std.specs.Prelude.{ℕ, ◌+◌, if◌then◌else◌, List, [], ◌∷◌, Option, Some, None, Result, Ok, Err}
use Rattle.std.specs.List.{list_all}
use Rattle.std.specs.Str.Lines.{lines}
use Rattle.hex.specs.Hex.{decode_of}
use Rattle.hex.specs.declared.error.FromHexError.{FromHexError}
use Rattle.teal_value.specs.Answer.{◌>>=◌}
use Rattle.teal_text.specs.Tokens.{is_blank}
use Rattle.avm_input.specs.declared.refusals.Refusal.{Refusal}
use Rattle.avm_input.specs.declared.refusals.Refusal.TheVariants as refusal

-- a line, and its number among all lines, counted from 1
pub record DigitLine : Type 0 where
  pub number : ℕ
  pub digits : List ℕ

-- the lines behind so many others, without those of spaces and tabs alone
abbrev pub lines_after : ℕ → List (List ℕ) → List DigitLine
lines_after before [] = []
lines_after before (text ∷ more) =
    if list_all is_blank text then lines_after (before + 1) more
    else record { number = before + 1; digits = text } ∷ lines_after (before + 1) more

abbrev pub digit_lines : List ℕ → List DigitLine
digit_lines input = lines_after 0 (lines input)

abbrev pub on_digits : ℕ → Result (List ℕ) FromHexError → Result (List ℕ) Refusal
on_digits number (Ok bytes) = Ok bytes
on_digits number (Err e) = Err (refusal.Hex number)

-- the bytes of a line's digits, which may be of either case
abbrev pub line_bytes : DigitLine → Result (List ℕ) Refusal
line_bytes line = on_digits line.number (decode_of line.digits)

-- the bytes of the first line, if there is one, and the lines behind it
abbrev pub first_bytes : List DigitLine → Result (Option (List ℕ) × List DigitLine) Refusal
first_bytes [] = Ok (None, [])
first_bytes (line ∷ more) = line_bytes line >>= λ bytes. Ok (Some bytes, more)

-- a value, where no line is left
abbrev pub with_no_line : {A : Type 0} → List DigitLine → A → Result A Refusal
with_no_line [] x = Ok x
with_no_line (line ∷ more) x = Err refusal.Lines
