-- The rules of programs as a relation between bytes and a program, apart from the order in which they are tested.
use Rattle.std.specs.Prelude.{◌≡◌, ℕ, ◌+◌, ◌≤◌, true, List, [], ◌∷◌, ◌++◌, length, slice_index_or, Option, Some, None}
use Rattle.teal_table.specs.declared.shape.Version.{Version}
use Rattle.teal_table.specs.declared.shape.Version.TheVariants.{Two, Three}
use Rattle.teal_table.specs.Table.{row_of}
use Rattle.teal_code.specs.declared.instr.Immediates.{Immediates}
use Rattle.teal_code.specs.declared.instr.Immediates.TheVariants as is
use Rattle.teal_code.specs.Varuint.{IsVaruint}
use Rattle.teal_code.specs.Grammar.{Reads}
use Rattle.teal_code.specs.Limits.{most_program_bytes, most_cost}
use Rattle.teal_check.specs.declared.program.PlacedInstr.{PlacedInstr}
use Rattle.teal_check.specs.WellFormed.{WellFormed, has_field, places, cost_of}

abbrev pub version_number : Version → ℕ
version_number Two = 2
version_number Three = 3

-- the bytes begin with the version's number, and the first instruction stands behind it
pub record BeginsWithVersion (bytes : List ℕ) (version : Version) (start : ℕ) : Type 0 where
  pub front : List ℕ
  pub rest : List ℕ
  pub parts : bytes ≡ front ++ rest
  pub encoded : IsVaruint front (version_number version)
  pub starts : start ≡ length front

-- the grammar has the instruction at the place, and its opcode reads the field
pub record StandsAt (version : Version) (bytes : List ℕ) (place : ℕ) (p : PlacedInstr) : Type 0 where
  pub here : p.place ≡ place
  pub reads : Reads version bytes place p.instr p.next
  pub field : has_field version (row_of p.instr.opcode).immediates p.instr.immediates ≡ true

-- instructions one behind another, from a place to the end
abbrev pub StandFrom : Version → List ℕ → ℕ → List PlacedInstr → Type 0
StandFrom version bytes place [] = place ≡ length bytes
StandFrom version bytes place (p ∷ ps) = StandsAt version bytes place p × StandFrom version bytes p.next ps

-- A branch leads over its offset to the place of an instruction, named by its number, or to the end, named by their count.
abbrev pub Leads : List ℕ → ℕ → ℕ → Immediates → Option ℕ → Type 0
Leads starts end next (is.Offset n) None = ⊥
Leads starts end next (is.Offset n) (Some target) = (n ≤ 32767) × (target ≤ length starts) × (slice_index_or starts target end ≡ next + n)
Leads starts end next _ target = target ≡ None

abbrev pub AllLead : List ℕ → ℕ → List PlacedInstr → Type 0
AllLead starts end [] = Unit {0}
AllLead starts end (p ∷ ps) = Leads starts end p.next p.instr.immediates p.target × AllLead starts end ps

-- the bytes are the program
pub record IsProgram (bytes : List ℕ) (w : WellFormed) : Type 0 where
  pub same : w.bytes ≡ bytes
  pub short : length bytes ≤ most_program_bytes
  pub start : ℕ
  pub version : BeginsWithVersion bytes w.version start
  pub instructions : StandFrom w.version bytes start w.placed
  pub targets : AllLead (places w.placed) (length bytes) w.placed
  pub cost : w.cost ≡ cost_of w.placed
  pub cheap : w.cost ≤ most_cost
