-- What a program means, as a text does: its instructions, branches by the numbers of their targets.
use Rattle.std.specs.Prelude.{◌≡◌, ℕ, ◌+◌, ◌<◌, ◌≤◌, List, [], ◌∷◌, map, Option, Some, None}
use Rattle.teal_table.specs.declared.opcode.Opcode.{Opcode}
use Rattle.teal_table.specs.declared.shape.Version.{Version}
use Rattle.teal_code.specs.declared.instr.Immediates.{Immediates}
use Rattle.teal_code.specs.declared.instr.Immediates.TheVariants as is
use Rattle.teal_check.specs.declared.program.PlacedInstr.{PlacedInstr}
use Rattle.teal_check.specs.WellFormed.{WellFormed}
use Rattle.teal_laws.specs.Listed.{IsOfVersion}
use Rattle.teal_asm.specs.Meaning.{Meant, Straight, Branch, Meaning}

-- a branch is named by its target, and not by an offset
abbrev pub IsNoOffset : Immediates → Type 0
IsNoOffset (is.Offset n) = ⊥
IsNoOffset _ = Unit {0}

abbrev pub meant_with : Option ℕ → Opcode → Immediates → Meant
meant_with None o immediates = Straight o immediates
meant_with (Some target) o immediates = Branch o target

abbrev pub meant_of : PlacedInstr → Meant
meant_of p = meant_with p.target p.instr.opcode p.instr.immediates

abbrev pub program_meaning : WellFormed → Meaning
program_meaning w = record { version = w.version; instructions = map meant_of w.placed }

-- an instruction with a number, of so many: of the version, and a branch leads to one behind it or to the end
abbrev pub IsMeant : Version → ℕ → ℕ → Meant → Type 0
IsMeant version count number (Straight o m) = IsOfVersion version (record { opcode = o; immediates = m }) × IsNoOffset m
IsMeant version count number (Branch o target) = ((n : ℕ) → IsOfVersion version (record { opcode = o; immediates = is.Offset n })) × (number < target) × (target ≤ count)

-- instructions from the one with a number on
abbrev pub AreMeant : Version → ℕ → ℕ → List Meant → Type 0
AreMeant version count number [] = Unit {0}
AreMeant version count number (m ∷ ms) = IsMeant version count number m × AreMeant version count (number + 1) ms

-- Two programs have the same instructions where their opcodes and immediates are equal one by one, whatever their encoding,
-- and branches lead to instructions of the same number.
abbrev pub SameInstructions : WellFormed → WellFormed → Type 0
SameInstructions p q = map meant_of p.placed ≡ map meant_of q.placed
