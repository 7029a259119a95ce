-- The lines of a text, and their tokens.
use Rattle.std.specs.Prelude.{ℕ, ◌+◌, ◌==◌, Bool, if◌then◌else◌, List, [], ◌∷◌, length, take, map, Result, Ok, Err}
use Rattle.std.specs.List.{slice_split, position_or_len}
use Rattle.std.specs.Str.Lines.{strip_carriage_return}
use Rattle.teal_text.specs.declared.fault.TextFaultKind.{TextFaultKind}
use Rattle.teal_text.specs.declared.fault.TextFault.{TextFault}
use Rattle.teal_text.specs.declared.token.Token.{Token}
use Rattle.teal_text.specs.declared.line.Line.{Line}
use Rattle.teal_value.specs.Answer.{◌>>=◌}
use Rattle.teal_text.specs.Tokens.{tokens_of}

-- a line without where it lies in memory
pub record LineTokens : Type 0 where
  pub number : ℕ
  pub tokens : List Token

abbrev pub view : Line → LineTokens
view l = record { number = l.number; tokens = l.tokens.items }

abbrev pub views : List Line → List LineTokens
views ls = map view ls

-- a fault in a line
abbrev pub on_line : {A : Type 0} → ℕ → Result A TextFaultKind → Result A TextFault
on_line number (Ok x) = Ok x
on_line number (Err k) = Err (record { line = number; kind = k })

abbrev pub with_line : LineTokens → Result (List LineTokens) TextFault → Result (List LineTokens) TextFault
with_line l (Ok ls) = Ok (l ∷ ls)
with_line l (Err e) = Err e

-- The lines in the parts between line feeds, from a place and a number on. An empty last part is no line, and a
-- carriage return goes only before a line feed.
unfoldable pub lines_from : ℕ → ℕ → List (List ℕ) → Result (List LineTokens) TextFault
lines_from number place [] = Ok []
lines_from number place ([] ∷ []) = Ok []
lines_from number place ((b ∷ bs) ∷ []) = on_line number (tokens_of place (b ∷ bs)) >>= λ tokens. Ok (record { number = number; tokens = tokens } ∷ [])
lines_from number place (part ∷ next ∷ more) =
    on_line number (tokens_of place (strip_carriage_return part)) >>= λ tokens.
    with_line (record { number = number; tokens = tokens }) (lines_from (number + 1) (place + length part + 1) (next ∷ more))

abbrev pub is_line_feed : ℕ → Bool
is_line_feed b = b == 10

-- the lines of a text, or the first fault
abbrev pub lines_of : List ℕ → Result (List LineTokens) TextFault
lines_of text = lines_from 1 0 (slice_split is_line_feed text)

-- how long the first line is, and its text
abbrev pub line_len : List ℕ → ℕ
line_len bs = position_or_len is_line_feed bs

unfoldable pub line_text : List ℕ → List ℕ
line_text bs = if line_len bs == length bs then bs else strip_carriage_return (take (line_len bs) bs)
