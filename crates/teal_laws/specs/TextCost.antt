-- What the instructions of a text cost.
use Rattle.std.specs.Prelude.{ℕ, ◌+◌, List, [], ◌∷◌}
use Rattle.teal_table.specs.Table.{row_of}
use Rattle.teal_asm.specs.Meaning.{Meant, Straight, Branch}

abbrev pub meant_cost : List Meant → ℕ
meant_cost [] = 0
meant_cost (Straight o m ∷ ms) = (row_of o).cost + meant_cost ms
meant_cost (Branch o t ∷ ms) = (row_of o).cost + meant_cost ms
