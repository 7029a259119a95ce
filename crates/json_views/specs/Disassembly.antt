-- The listing of a program as JSON, an item a line.
use Rattle.std.specs.Prelude.{ℕ, ◌==◌, if◌then◌else◌, List, [], ◌∷◌, ◌++◌}
use Rattle.json.specs.Json.{Json}
use Rattle.teal_check.specs.WellFormed.{WellFormed}
use Rattle.teal_dis.specs.Listing.{listing}
use Rattle.json_views.specs.Documents.{array_of, text}

-- the parts of a text between its line feeds, behind what has come of one already; what ends with one has an empty last part
abbrev pub lines_behind : List ℕ → List ℕ → List (List ℕ)
lines_behind begun [] = begun ∷ []
lines_behind begun (b ∷ bs) = if b == 10 then begun ∷ lines_behind [] bs else lines_behind (begun ++ (b ∷ [])) bs

abbrev pub lines_of : List ℕ → List (List ℕ)
lines_of bytes = lines_behind [] bytes

abbrev pub shown_lines : List ℕ → Json
shown_lines bytes = array_of text (lines_of bytes)

abbrev pub shown_disassembly : WellFormed → Json
shown_disassembly p = shown_lines (listing p)
