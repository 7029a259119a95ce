-- Immediates as words of a text ask for them, before it is known that they are bytes.
use Rattle.std.proofs.Common.{◌≡◌, ℕ, ◌<◌, ◌^◌, true, List}
use Rattle.teal_table.specs.declared.shape.Shape.{Shape}
use Rattle.teal_table.specs.declared.shape.Shape.TheVariants as shape
use Rattle.teal_table.specs.declared.shape.Version.{Version}
use Rattle.teal_table.specs.Fields.{txn_field_at, global_field_at}
use Rattle.teal_code.specs.declared.instr.Immediates.{Immediates}
use Rattle.teal_code.specs.declared.instr.Immediates.TheVariants as is
use Rattle.teal_check.specs.WellFormed.{is_scalar, is_array_field, is_global}
use Rattle.teal_laws.specs.Listed.{AreUints}

-- immediates of an opcode of this shape, but for the sizes of bytes
pub data HasForm (version : Version) : Shape → Immediates → Type 0 where
  nothing : HasForm version shape.Nothing is.Nothing
  index : {i : ℕ} → HasForm version shape.Index (is.Index i)
  txn : {f : ℕ} → is_scalar (txn_field_at f) ≡ true → HasForm version shape.TxnField (is.Field f)
  stack : {f : ℕ} → is_scalar (txn_field_at f) ≡ true → HasForm version shape.StackField (is.Field f)
  global : {f : ℕ} → is_global version (global_field_at f) ≡ true → HasForm version shape.GlobalField (is.Field f)
  group : {t f : ℕ} → is_scalar (txn_field_at f) ≡ true → HasForm version shape.GroupField (is.GroupField t f)
  array : {f i : ℕ} → is_array_field (txn_field_at f) ≡ true → HasForm version shape.ArrayField (is.ArrayField f i)
  stack_array : {f i : ℕ} → is_array_field (txn_field_at f) ≡ true → HasForm version shape.StackArrayField (is.ArrayField f i)
  group_array : {t f i : ℕ} → is_array_field (txn_field_at f) ≡ true → HasForm version shape.GroupArrayField (is.GroupArrayField t f i)
  bounds : {s e : ℕ} → HasForm version shape.Bounds (is.Bounds s e)
  uints : {ns : List ℕ} → AreUints ns → HasForm version shape.UintBlock (is.UintBlock ns)
  strings : {ss : List (List ℕ)} → HasForm version shape.ByteBlock (is.ByteBlock ss)
  uint : {n : ℕ} → n < 2 ^ 64 → HasForm version shape.Uint (is.Uint n)
  string : {s : List ℕ} → HasForm version shape.Bytes (is.Bytes s)
