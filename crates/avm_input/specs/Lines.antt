-- A line taken from lines, without where it lies in memory.
use Rattle.std.specs.Prelude.{◌≡◌, ℕ, List, [], ◌∷◌, map, Option, Some, None}
use Rattle.std.specs.Borrow.{Bor}
use Rattle.avm_input.specs.DigitLines.{DigitLine}

-- the first line, if there is one, and the lines behind it
abbrev pub IsTaken : Option (ℕ × Bor (List ℕ)) → List DigitLine → List DigitLine → Type 0
IsTaken None lines rest = (lines ≡ []) × (rest ≡ [])
IsTaken (Some (number, digits)) lines rest = lines ≡ record { number = number; digits = digits.now } ∷ rest

abbrev pub line_shown : ℕ × Bor (List ℕ) → DigitLine
line_shown line = record { number = line.0; digits = line.1.now }

abbrev pub lines_shown : List (ℕ × Bor (List ℕ)) → List DigitLine
lines_shown lines = map line_shown lines
