-- Instructions that a listing can name, and what the line of one asks for.
use Rattle.std.specs.Prelude.{◌≡◌, ℕ, ◌+◌, ◌<◌, ◌≤◌, ◌^◌, true, List, [], ◌∷◌, length, Option, Some, None}
use Rattle.base64.specs.GeneralPurpose.{IsBytes}
use Rattle.teal_table.specs.declared.shape.Shape.{Shape}
use Rattle.teal_table.specs.declared.shape.Shape.TheVariants as shape
use Rattle.teal_table.specs.declared.shape.Version.{Version}
use Rattle.teal_table.specs.declared.opcode.Opcode.{Opcode}
use Rattle.teal_table.specs.Table.{row_of, has}
use Rattle.teal_table.specs.Fields.{txn_field_at, global_field_at}
use Rattle.teal_code.specs.declared.instr.Immediates.{Immediates}
use Rattle.teal_code.specs.declared.instr.Immediates.TheVariants as is
use Rattle.teal_code.specs.declared.instr.Instr.{Instr}
use Rattle.teal_code.specs.Limits.{most_program_bytes}
use Rattle.teal_check.specs.declared.program.PlacedInstr.{PlacedInstr}
use Rattle.teal_check.specs.WellFormed.{WellFormed, is_scalar, is_array_field, is_global}
use Rattle.teal_source.specs.declared.command.Command.{Command}
use Rattle.teal_source.specs.declared.command.Command.TheVariants.{Jump, Plain}

abbrev pub AreUints : List ℕ → Type 0
AreUints [] = Unit {0}
AreUints (n ∷ ns) = (n < 2 ^ 64) × AreUints ns

abbrev pub AreStrings : List (List ℕ) → Type 0
AreStrings [] = Unit {0}
AreStrings (s ∷ ss) = IsBytes s × AreStrings ss

-- immediates of an opcode of this shape, with numbers in their range and fields of the version
pub data HasShape (version : Version) : Shape → Immediates → Type 0 where
  nothing : HasShape version shape.Nothing is.Nothing
  index : {i : ℕ} → i ≤ 255 → HasShape version shape.Index (is.Index i)
  txn : {f : ℕ} → is_scalar (txn_field_at f) ≡ true → HasShape version shape.TxnField (is.Field f)
  stack : {f : ℕ} → is_scalar (txn_field_at f) ≡ true → HasShape version shape.StackField (is.Field f)
  global : {f : ℕ} → is_global version (global_field_at f) ≡ true → HasShape version shape.GlobalField (is.Field f)
  group : {t f : ℕ} → t ≤ 255 → is_scalar (txn_field_at f) ≡ true → HasShape version shape.GroupField (is.GroupField t f)
  array : {f i : ℕ} → is_array_field (txn_field_at f) ≡ true → i ≤ 255 → HasShape version shape.ArrayField (is.ArrayField f i)
  stack_array : {f i : ℕ} → is_array_field (txn_field_at f) ≡ true → i ≤ 255 → HasShape version shape.StackArrayField (is.ArrayField f i)
  group_array : {t f i : ℕ} → t ≤ 255 → is_array_field (txn_field_at f) ≡ true → i ≤ 255 → HasShape version shape.GroupArrayField (is.GroupArrayField t f i)
  bounds : {s e : ℕ} → s ≤ 255 → e ≤ 255 → HasShape version shape.Bounds (is.Bounds s e)
  offset : {n : ℕ} → HasShape version shape.Offset (is.Offset n)
  uints : {ns : List ℕ} → AreUints ns → HasShape version shape.UintBlock (is.UintBlock ns)
  strings : {ss : List (List ℕ)} → AreStrings ss → HasShape version shape.ByteBlock (is.ByteBlock ss)
  uint : {n : ℕ} → n < 2 ^ 64 → HasShape version shape.Uint (is.Uint n)
  string : {s : List ℕ} → IsBytes s → HasShape version shape.Bytes (is.Bytes s)

-- an instruction of programs of the version
pub record IsOfVersion (version : Version) (i : Instr) : Type 0 where
  pub opcode : has version (row_of i.opcode).version ≡ true
  pub immediates : HasShape version (row_of i.opcode).immediates i.immediates

-- what the line of an instruction asks for; the target of a branch is given
abbrev pub command_of : Opcode → List ℕ → Immediates → Command
command_of o target (is.Offset n) = Jump o target
command_of o target immediates = Plain o immediates

abbrev pub AreOf : Version → List PlacedInstr → Type 0
AreOf version [] = Unit {0}
AreOf version (p ∷ ps) = IsOfVersion version p.instr × AreOf version ps

-- the target of an instruction with a number: of a branch an instruction behind it, or the end
abbrev pub IsAimed : ℕ → ℕ → Immediates → Option ℕ → Type 0
IsAimed count number (is.Offset n) (Some target) = (number < target) × (target ≤ count)
IsAimed count number (is.Offset n) None = ⊥
IsAimed count number _ target = target ≡ None

-- instructions from the one with a number on
abbrev pub AreAimed : ℕ → ℕ → List PlacedInstr → Type 0
AreAimed count number [] = Unit {0}
AreAimed count number (p ∷ ps) = IsAimed count number p.instr.immediates p.target × AreAimed count (number + 1) ps

-- what the listing of a program rests on
pub record IsListed (w : WellFormed) : Type 0 where
  pub instructions : AreOf w.version w.placed
  pub targets : AreAimed (length w.placed) 0 w.placed
  pub few : length w.placed ≤ most_program_bytes
