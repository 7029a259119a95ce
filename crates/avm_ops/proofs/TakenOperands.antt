-- Each kind of operands tests for underflow and then for types.
use Rattle.std.proofs.Common.{◌≡◌, ◌<◌, ◌≤◌, false, List, [], ◌∷◌, length, Result, Err, refl, ap, arith}
use Rattle.std.specs.Prelude.{reverse}
use Rattle.teal_value.specs.Answer.{◌>>=◌}
use Rattle.teal_value.specs.declared.value.Value.{Value}
use Rattle.teal_value.specs.declared.value.Value.TheVariants.{Uint, Bytes}
use Rattle.teal_value.specs.declared.fault.Fault.{Fault}
use Rattle.teal_value.specs.declared.fault.Fault.TheVariants as fault
use Rattle.teal_table.specs.declared.shape.ValueKind.{ValueKind}
use Rattle.teal_table.specs.declared.shape.ValueKind.TheVariants as kind
use Rattle.avm_items.specs.Asks.{Gives}
use Rattle.avm_items.specs.Acts.{Act, stop, on_ok}
use Rattle.avm_cpu.specs.Operands.{one_uint, one_bytes, one_value, two_uints, two_bytes, two_values, uint_and_bytes, bytes_and_uint, bytes_and_value, value_and_uint, bytes_and_two_uints, value_and_two_uints, two_values_and_uint, two_uints_and_bytes, uint_bytes_and_value}
use Rattle.avm_ops.specs.Frame.{After, Stepped}
use Rattle.avm_ops.specs.TakenOperands.{are_kinds}

-- ---- operands by kind

one_uint-underflow : (stack : List Value) → length stack < 1 → one_uint stack ≡ Err fault.Underflow
one_uint-underflow [] h = refl
one_uint-underflow (a ∷ rest) h = absurd (omega arith)

one_uint-types : (stack : List Value) → 1 ≤ length stack → are_kinds (kind.Uint ∷ []) stack ≡ false → one_uint stack ≡ Err fault.WrongType
one_uint-types [] h t = absurd (omega arith)
one_uint-types (Uint a ∷ rest) h t = absurd cc
one_uint-types (Bytes a ∷ rest) h t = refl

one_bytes-underflow : (stack : List Value) → length stack < 1 → one_bytes stack ≡ Err fault.Underflow
one_bytes-underflow [] h = refl
one_bytes-underflow (a ∷ rest) h = absurd (omega arith)

one_bytes-types : (stack : List Value) → 1 ≤ length stack → are_kinds (kind.Bytes ∷ []) stack ≡ false → one_bytes stack ≡ Err fault.WrongType
one_bytes-types [] h t = absurd (omega arith)
one_bytes-types (Uint a ∷ rest) h t = refl
one_bytes-types (Bytes a ∷ rest) h t = absurd cc

one_value-underflow : (stack : List Value) → length stack < 1 → one_value stack ≡ Err fault.Underflow
one_value-underflow [] h = refl
one_value-underflow (a ∷ rest) h = absurd (omega arith)

one_value-types : (stack : List Value) → 1 ≤ length stack → are_kinds (kind.Any ∷ []) stack ≡ false → one_value stack ≡ Err fault.WrongType
one_value-types [] h t = absurd (omega arith)
one_value-types (Uint a ∷ rest) h t = absurd cc
one_value-types (Bytes a ∷ rest) h t = absurd cc

two_uints-underflow : (stack : List Value) → length stack < 2 → two_uints stack ≡ Err fault.Underflow
two_uints-underflow [] h = refl
two_uints-underflow (Uint a ∷ []) h = refl
two_uints-underflow (Bytes a ∷ []) h = refl
two_uints-underflow (a ∷ b ∷ rest) h = absurd (omega arith)

two_uints-types : (stack : List Value) → 2 ≤ length stack → are_kinds (kind.Uint ∷ kind.Uint ∷ []) stack ≡ false → two_uints stack ≡ Err fault.WrongType
two_uints-types [] h t = absurd (omega arith)
two_uints-types (a ∷ []) h t = absurd (omega arith)
two_uints-types (Uint a ∷ Uint b ∷ rest) h t = absurd cc
two_uints-types (Uint a ∷ Bytes b ∷ rest) h t = refl
two_uints-types (Bytes a ∷ Uint b ∷ rest) h t = refl
two_uints-types (Bytes a ∷ Bytes b ∷ rest) h t = refl

two_bytes-underflow : (stack : List Value) → length stack < 2 → two_bytes stack ≡ Err fault.Underflow
two_bytes-underflow [] h = refl
two_bytes-underflow (Uint a ∷ []) h = refl
two_bytes-underflow (Bytes a ∷ []) h = refl
two_bytes-underflow (a ∷ b ∷ rest) h = absurd (omega arith)

two_bytes-types : (stack : List Value) → 2 ≤ length stack → are_kinds (kind.Bytes ∷ kind.Bytes ∷ []) stack ≡ false → two_bytes stack ≡ Err fault.WrongType
two_bytes-types [] h t = absurd (omega arith)
two_bytes-types (a ∷ []) h t = absurd (omega arith)
two_bytes-types (Uint a ∷ Uint b ∷ rest) h t = refl
two_bytes-types (Uint a ∷ Bytes b ∷ rest) h t = refl
two_bytes-types (Bytes a ∷ Uint b ∷ rest) h t = refl
two_bytes-types (Bytes a ∷ Bytes b ∷ rest) h t = absurd cc

two_values-underflow : (stack : List Value) → length stack < 2 → two_values stack ≡ Err fault.Underflow
two_values-underflow [] h = refl
two_values-underflow (Uint a ∷ []) h = refl
two_values-underflow (Bytes a ∷ []) h = refl
two_values-underflow (a ∷ b ∷ rest) h = absurd (omega arith)

two_values-types : (stack : List Value) → 2 ≤ length stack → are_kinds (kind.Any ∷ kind.Any ∷ []) stack ≡ false → two_values stack ≡ Err fault.WrongType
two_values-types [] h t = absurd (omega arith)
two_values-types (a ∷ []) h t = absurd (omega arith)
two_values-types (Uint a ∷ Uint b ∷ rest) h t = absurd cc
two_values-types (Uint a ∷ Bytes b ∷ rest) h t = absurd cc
two_values-types (Bytes a ∷ Uint b ∷ rest) h t = absurd cc
two_values-types (Bytes a ∷ Bytes b ∷ rest) h t = absurd cc

uint_and_bytes-underflow : (stack : List Value) → length stack < 2 → uint_and_bytes stack ≡ Err fault.Underflow
uint_and_bytes-underflow [] h = refl
uint_and_bytes-underflow (Uint a ∷ []) h = refl
uint_and_bytes-underflow (Bytes a ∷ []) h = refl
uint_and_bytes-underflow (a ∷ b ∷ rest) h = absurd (omega arith)

uint_and_bytes-types : (stack : List Value) → 2 ≤ length stack → are_kinds (kind.Bytes ∷ kind.Uint ∷ []) stack ≡ false → uint_and_bytes stack ≡ Err fault.WrongType
uint_and_bytes-types [] h t = absurd (omega arith)
uint_and_bytes-types (a ∷ []) h t = absurd (omega arith)
uint_and_bytes-types (Uint a ∷ Uint b ∷ rest) h t = refl
uint_and_bytes-types (Uint a ∷ Bytes b ∷ rest) h t = refl
uint_and_bytes-types (Bytes a ∷ Uint b ∷ rest) h t = absurd cc
uint_and_bytes-types (Bytes a ∷ Bytes b ∷ rest) h t = refl

bytes_and_uint-underflow : (stack : List Value) → length stack < 2 → bytes_and_uint stack ≡ Err fault.Underflow
bytes_and_uint-underflow [] h = refl
bytes_and_uint-underflow (Uint a ∷ []) h = refl
bytes_and_uint-underflow (Bytes a ∷ []) h = refl
bytes_and_uint-underflow (a ∷ b ∷ rest) h = absurd (omega arith)

bytes_and_uint-types : (stack : List Value) → 2 ≤ length stack → are_kinds (kind.Uint ∷ kind.Bytes ∷ []) stack ≡ false → bytes_and_uint stack ≡ Err fault.WrongType
bytes_and_uint-types [] h t = absurd (omega arith)
bytes_and_uint-types (a ∷ []) h t = absurd (omega arith)
bytes_and_uint-types (Uint a ∷ Uint b ∷ rest) h t = refl
bytes_and_uint-types (Uint a ∷ Bytes b ∷ rest) h t = absurd cc
bytes_and_uint-types (Bytes a ∷ Uint b ∷ rest) h t = refl
bytes_and_uint-types (Bytes a ∷ Bytes b ∷ rest) h t = refl

bytes_and_value-underflow : (stack : List Value) → length stack < 2 → bytes_and_value stack ≡ Err fault.Underflow
bytes_and_value-underflow [] h = refl
bytes_and_value-underflow (Uint a ∷ []) h = refl
bytes_and_value-underflow (Bytes a ∷ []) h = refl
bytes_and_value-underflow (a ∷ b ∷ rest) h = absurd (omega arith)

bytes_and_value-types : (stack : List Value) → 2 ≤ length stack → are_kinds (kind.Any ∷ kind.Bytes ∷ []) stack ≡ false → bytes_and_value stack ≡ Err fault.WrongType
bytes_and_value-types [] h t = absurd (omega arith)
bytes_and_value-types (a ∷ []) h t = absurd (omega arith)
bytes_and_value-types (Uint a ∷ Uint b ∷ rest) h t = refl
bytes_and_value-types (Uint a ∷ Bytes b ∷ rest) h t = absurd cc
bytes_and_value-types (Bytes a ∷ Uint b ∷ rest) h t = refl
bytes_and_value-types (Bytes a ∷ Bytes b ∷ rest) h t = absurd cc

value_and_uint-underflow : (stack : List Value) → length stack < 2 → value_and_uint stack ≡ Err fault.Underflow
value_and_uint-underflow [] h = refl
value_and_uint-underflow (Uint a ∷ []) h = refl
value_and_uint-underflow (Bytes a ∷ []) h = refl
value_and_uint-underflow (a ∷ b ∷ rest) h = absurd (omega arith)

value_and_uint-types : (stack : List Value) → 2 ≤ length stack → are_kinds (kind.Uint ∷ kind.Any ∷ []) stack ≡ false → value_and_uint stack ≡ Err fault.WrongType
value_and_uint-types [] h t = absurd (omega arith)
value_and_uint-types (a ∷ []) h t = absurd (omega arith)
value_and_uint-types (Uint a ∷ Uint b ∷ rest) h t = absurd cc
value_and_uint-types (Uint a ∷ Bytes b ∷ rest) h t = absurd cc
value_and_uint-types (Bytes a ∷ Uint b ∷ rest) h t = refl
value_and_uint-types (Bytes a ∷ Bytes b ∷ rest) h t = refl

bytes_and_two_uints-underflow : (stack : List Value) → length stack < 3 → bytes_and_two_uints stack ≡ Err fault.Underflow
bytes_and_two_uints-underflow [] h = refl
bytes_and_two_uints-underflow (Uint a ∷ []) h = refl
bytes_and_two_uints-underflow (Bytes a ∷ []) h = refl
bytes_and_two_uints-underflow (Uint a ∷ Uint b ∷ []) h = refl
bytes_and_two_uints-underflow (Uint a ∷ Bytes b ∷ []) h = refl
bytes_and_two_uints-underflow (Bytes a ∷ Uint b ∷ []) h = refl
bytes_and_two_uints-underflow (Bytes a ∷ Bytes b ∷ []) h = refl
bytes_and_two_uints-underflow (a ∷ b ∷ c ∷ rest) h = absurd (omega arith)

bytes_and_two_uints-types : (stack : List Value) → 3 ≤ length stack → are_kinds (kind.Uint ∷ kind.Uint ∷ kind.Bytes ∷ []) stack ≡ false → bytes_and_two_uints stack ≡ Err fault.WrongType
bytes_and_two_uints-types [] h t = absurd (omega arith)
bytes_and_two_uints-types (a ∷ []) h t = absurd (omega arith)
bytes_and_two_uints-types (a ∷ b ∷ []) h t = absurd (omega arith)
bytes_and_two_uints-types (Uint a ∷ Uint b ∷ Uint c ∷ rest) h t = refl
bytes_and_two_uints-types (Uint a ∷ Uint b ∷ Bytes c ∷ rest) h t = absurd cc
bytes_and_two_uints-types (Uint a ∷ Bytes b ∷ Uint c ∷ rest) h t = refl
bytes_and_two_uints-types (Uint a ∷ Bytes b ∷ Bytes c ∷ rest) h t = refl
bytes_and_two_uints-types (Bytes a ∷ Uint b ∷ Uint c ∷ rest) h t = refl
bytes_and_two_uints-types (Bytes a ∷ Uint b ∷ Bytes c ∷ rest) h t = refl
bytes_and_two_uints-types (Bytes a ∷ Bytes b ∷ Uint c ∷ rest) h t = refl
bytes_and_two_uints-types (Bytes a ∷ Bytes b ∷ Bytes c ∷ rest) h t = refl

value_and_two_uints-underflow : (stack : List Value) → length stack < 3 → value_and_two_uints stack ≡ Err fault.Underflow
value_and_two_uints-underflow [] h = refl
value_and_two_uints-underflow (Uint a ∷ []) h = refl
value_and_two_uints-underflow (Bytes a ∷ []) h = refl
value_and_two_uints-underflow (Uint a ∷ Uint b ∷ []) h = refl
value_and_two_uints-underflow (Uint a ∷ Bytes b ∷ []) h = refl
value_and_two_uints-underflow (Bytes a ∷ Uint b ∷ []) h = refl
value_and_two_uints-underflow (Bytes a ∷ Bytes b ∷ []) h = refl
value_and_two_uints-underflow (a ∷ b ∷ c ∷ rest) h = absurd (omega arith)

value_and_two_uints-types : (stack : List Value) → 3 ≤ length stack → are_kinds (kind.Uint ∷ kind.Uint ∷ kind.Any ∷ []) stack ≡ false → value_and_two_uints stack ≡ Err fault.WrongType
value_and_two_uints-types [] h t = absurd (omega arith)
value_and_two_uints-types (a ∷ []) h t = absurd (omega arith)
value_and_two_uints-types (a ∷ b ∷ []) h t = absurd (omega arith)
value_and_two_uints-types (Uint a ∷ Uint b ∷ Uint c ∷ rest) h t = absurd cc
value_and_two_uints-types (Uint a ∷ Uint b ∷ Bytes c ∷ rest) h t = absurd cc
value_and_two_uints-types (Uint a ∷ Bytes b ∷ Uint c ∷ rest) h t = refl
value_and_two_uints-types (Uint a ∷ Bytes b ∷ Bytes c ∷ rest) h t = refl
value_and_two_uints-types (Bytes a ∷ Uint b ∷ Uint c ∷ rest) h t = refl
value_and_two_uints-types (Bytes a ∷ Uint b ∷ Bytes c ∷ rest) h t = refl
value_and_two_uints-types (Bytes a ∷ Bytes b ∷ Uint c ∷ rest) h t = refl
value_and_two_uints-types (Bytes a ∷ Bytes b ∷ Bytes c ∷ rest) h t = refl

two_values_and_uint-underflow : (stack : List Value) → length stack < 3 → two_values_and_uint stack ≡ Err fault.Underflow
two_values_and_uint-underflow [] h = refl
two_values_and_uint-underflow (Uint a ∷ []) h = refl
two_values_and_uint-underflow (Bytes a ∷ []) h = refl
two_values_and_uint-underflow (Uint a ∷ Uint b ∷ []) h = refl
two_values_and_uint-underflow (Uint a ∷ Bytes b ∷ []) h = refl
two_values_and_uint-underflow (Bytes a ∷ Uint b ∷ []) h = refl
two_values_and_uint-underflow (Bytes a ∷ Bytes b ∷ []) h = refl
two_values_and_uint-underflow (a ∷ b ∷ c ∷ rest) h = absurd (omega arith)

two_values_and_uint-types : (stack : List Value) → 3 ≤ length stack → are_kinds (kind.Uint ∷ kind.Any ∷ kind.Any ∷ []) stack ≡ false → two_values_and_uint stack ≡ Err fault.WrongType
two_values_and_uint-types [] h t = absurd (omega arith)
two_values_and_uint-types (a ∷ []) h t = absurd (omega arith)
two_values_and_uint-types (a ∷ b ∷ []) h t = absurd (omega arith)
two_values_and_uint-types (Uint a ∷ Uint b ∷ Uint c ∷ rest) h t = absurd cc
two_values_and_uint-types (Uint a ∷ Uint b ∷ Bytes c ∷ rest) h t = absurd cc
two_values_and_uint-types (Uint a ∷ Bytes b ∷ Uint c ∷ rest) h t = absurd cc
two_values_and_uint-types (Uint a ∷ Bytes b ∷ Bytes c ∷ rest) h t = absurd cc
two_values_and_uint-types (Bytes a ∷ Uint b ∷ Uint c ∷ rest) h t = refl
two_values_and_uint-types (Bytes a ∷ Uint b ∷ Bytes c ∷ rest) h t = refl
two_values_and_uint-types (Bytes a ∷ Bytes b ∷ Uint c ∷ rest) h t = refl
two_values_and_uint-types (Bytes a ∷ Bytes b ∷ Bytes c ∷ rest) h t = refl

two_uints_and_bytes-underflow : (stack : List Value) → length stack < 3 → two_uints_and_bytes stack ≡ Err fault.Underflow
two_uints_and_bytes-underflow [] h = refl
two_uints_and_bytes-underflow (Uint a ∷ []) h = refl
two_uints_and_bytes-underflow (Bytes a ∷ []) h = refl
two_uints_and_bytes-underflow (Uint a ∷ Uint b ∷ []) h = refl
two_uints_and_bytes-underflow (Uint a ∷ Bytes b ∷ []) h = refl
two_uints_and_bytes-underflow (Bytes a ∷ Uint b ∷ []) h = refl
two_uints_and_bytes-underflow (Bytes a ∷ Bytes b ∷ []) h = refl
two_uints_and_bytes-underflow (a ∷ b ∷ c ∷ rest) h = absurd (omega arith)

two_uints_and_bytes-types : (stack : List Value) → 3 ≤ length stack → are_kinds (kind.Bytes ∷ kind.Uint ∷ kind.Uint ∷ []) stack ≡ false → two_uints_and_bytes stack ≡ Err fault.WrongType
two_uints_and_bytes-types [] h t = absurd (omega arith)
two_uints_and_bytes-types (a ∷ []) h t = absurd (omega arith)
two_uints_and_bytes-types (a ∷ b ∷ []) h t = absurd (omega arith)
two_uints_and_bytes-types (Uint a ∷ Uint b ∷ Uint c ∷ rest) h t = refl
two_uints_and_bytes-types (Uint a ∷ Uint b ∷ Bytes c ∷ rest) h t = refl
two_uints_and_bytes-types (Uint a ∷ Bytes b ∷ Uint c ∷ rest) h t = refl
two_uints_and_bytes-types (Uint a ∷ Bytes b ∷ Bytes c ∷ rest) h t = refl
two_uints_and_bytes-types (Bytes a ∷ Uint b ∷ Uint c ∷ rest) h t = absurd cc
two_uints_and_bytes-types (Bytes a ∷ Uint b ∷ Bytes c ∷ rest) h t = refl
two_uints_and_bytes-types (Bytes a ∷ Bytes b ∷ Uint c ∷ rest) h t = refl
two_uints_and_bytes-types (Bytes a ∷ Bytes b ∷ Bytes c ∷ rest) h t = refl

uint_bytes_and_value-underflow : (stack : List Value) → length stack < 3 → uint_bytes_and_value stack ≡ Err fault.Underflow
uint_bytes_and_value-underflow [] h = refl
uint_bytes_and_value-underflow (Uint a ∷ []) h = refl
uint_bytes_and_value-underflow (Bytes a ∷ []) h = refl
uint_bytes_and_value-underflow (Uint a ∷ Uint b ∷ []) h = refl
uint_bytes_and_value-underflow (Uint a ∷ Bytes b ∷ []) h = refl
uint_bytes_and_value-underflow (Bytes a ∷ Uint b ∷ []) h = refl
uint_bytes_and_value-underflow (Bytes a ∷ Bytes b ∷ []) h = refl
uint_bytes_and_value-underflow (a ∷ b ∷ c ∷ rest) h = absurd (omega arith)

uint_bytes_and_value-types : (stack : List Value) → 3 ≤ length stack → are_kinds (kind.Any ∷ kind.Bytes ∷ kind.Uint ∷ []) stack ≡ false → uint_bytes_and_value stack ≡ Err fault.WrongType
uint_bytes_and_value-types [] h t = absurd (omega arith)
uint_bytes_and_value-types (a ∷ []) h t = absurd (omega arith)
uint_bytes_and_value-types (a ∷ b ∷ []) h t = absurd (omega arith)
uint_bytes_and_value-types (Uint a ∷ Uint b ∷ Uint c ∷ rest) h t = refl
uint_bytes_and_value-types (Uint a ∷ Uint b ∷ Bytes c ∷ rest) h t = refl
uint_bytes_and_value-types (Uint a ∷ Bytes b ∷ Uint c ∷ rest) h t = absurd cc
uint_bytes_and_value-types (Uint a ∷ Bytes b ∷ Bytes c ∷ rest) h t = refl
uint_bytes_and_value-types (Bytes a ∷ Uint b ∷ Uint c ∷ rest) h t = refl
uint_bytes_and_value-types (Bytes a ∷ Uint b ∷ Bytes c ∷ rest) h t = refl
uint_bytes_and_value-types (Bytes a ∷ Bytes b ∷ Uint c ∷ rest) h t = absurd cc
uint_bytes_and_value-types (Bytes a ∷ Bytes b ∷ Bytes c ∷ rest) h t = refl

-- ---- what an instruction tests first

-- where there are too few values, or one of another kind, that is the fault
pub record Takes {A : Type 0} (pops : List ValueKind) (stack : List Value) (r : Result A Fault) : Type 0 where
  pub underflow : length stack < length pops → r ≡ Err fault.Underflow
  pub types : length pops ≤ length stack → are_kinds (reverse pops) stack ≡ false → r ≡ Err fault.WrongType

-- an instruction tests for underflow first, and then for the types of its operands
pub record TestsFirst (pops : List ValueKind) (stack : List Value) (t : Act Fault After) : Type 0 where
  pub underflow : length stack < length pops → t ≡ stop fault.Underflow
  pub types : length pops ≤ length stack → are_kinds (reverse pops) stack ≡ false → t ≡ stop fault.WrongType

-- an operand is tested for underflow and then for its type, and so for the kinds below
pub one_uint-takes : (stack : List Value) → Takes (kind.Uint ∷ []) stack (one_uint stack)
one_uint-takes stack = record { underflow = one_uint-underflow stack; types = one_uint-types stack }

pub one_bytes-takes : (stack : List Value) → Takes (kind.Bytes ∷ []) stack (one_bytes stack)
one_bytes-takes stack = record { underflow = one_bytes-underflow stack; types = one_bytes-types stack }

pub one_value-takes : (stack : List Value) → Takes (kind.Any ∷ []) stack (one_value stack)
one_value-takes stack = record { underflow = one_value-underflow stack; types = one_value-types stack }

pub two_uints-takes : (stack : List Value) → Takes (kind.Uint ∷ kind.Uint ∷ []) stack (two_uints stack)
two_uints-takes stack = record { underflow = two_uints-underflow stack; types = two_uints-types stack }

pub two_bytes-takes : (stack : List Value) → Takes (kind.Bytes ∷ kind.Bytes ∷ []) stack (two_bytes stack)
two_bytes-takes stack = record { underflow = two_bytes-underflow stack; types = two_bytes-types stack }

pub two_values-takes : (stack : List Value) → Takes (kind.Any ∷ kind.Any ∷ []) stack (two_values stack)
two_values-takes stack = record { underflow = two_values-underflow stack; types = two_values-types stack }

pub uint_and_bytes-takes : (stack : List Value) → Takes (kind.Uint ∷ kind.Bytes ∷ []) stack (uint_and_bytes stack)
uint_and_bytes-takes stack = record { underflow = uint_and_bytes-underflow stack; types = uint_and_bytes-types stack }

pub bytes_and_uint-takes : (stack : List Value) → Takes (kind.Bytes ∷ kind.Uint ∷ []) stack (bytes_and_uint stack)
bytes_and_uint-takes stack = record { underflow = bytes_and_uint-underflow stack; types = bytes_and_uint-types stack }

pub bytes_and_value-takes : (stack : List Value) → Takes (kind.Bytes ∷ kind.Any ∷ []) stack (bytes_and_value stack)
bytes_and_value-takes stack = record { underflow = bytes_and_value-underflow stack; types = bytes_and_value-types stack }

pub value_and_uint-takes : (stack : List Value) → Takes (kind.Any ∷ kind.Uint ∷ []) stack (value_and_uint stack)
value_and_uint-takes stack = record { underflow = value_and_uint-underflow stack; types = value_and_uint-types stack }

pub bytes_and_two_uints-takes : (stack : List Value) → Takes (kind.Bytes ∷ kind.Uint ∷ kind.Uint ∷ []) stack (bytes_and_two_uints stack)
bytes_and_two_uints-takes stack = record { underflow = bytes_and_two_uints-underflow stack; types = bytes_and_two_uints-types stack }

pub value_and_two_uints-takes : (stack : List Value) → Takes (kind.Any ∷ kind.Uint ∷ kind.Uint ∷ []) stack (value_and_two_uints stack)
value_and_two_uints-takes stack = record { underflow = value_and_two_uints-underflow stack; types = value_and_two_uints-types stack }

pub two_values_and_uint-takes : (stack : List Value) → Takes (kind.Any ∷ kind.Any ∷ kind.Uint ∷ []) stack (two_values_and_uint stack)
two_values_and_uint-takes stack = record { underflow = two_values_and_uint-underflow stack; types = two_values_and_uint-types stack }

pub two_uints_and_bytes-takes : (stack : List Value) → Takes (kind.Uint ∷ kind.Uint ∷ kind.Bytes ∷ []) stack (two_uints_and_bytes stack)
two_uints_and_bytes-takes stack = record { underflow = two_uints_and_bytes-underflow stack; types = two_uints_and_bytes-types stack }

pub uint_bytes_and_value-takes : (stack : List Value) → Takes (kind.Uint ∷ kind.Bytes ∷ kind.Any ∷ []) stack (uint_bytes_and_value stack)
uint_bytes_and_value-takes stack = record { underflow = uint_bytes_and_value-underflow stack; types = uint_bytes_and_value-types stack }

-- an instruction that takes no operands has none to test
pub takes_none : (stack : List Value) (t : Act Fault After) → TestsFirst [] stack t
takes_none stack t = record { underflow = λ h. absurd (omega arith); types = λ h t. absurd cc }

-- an instruction that reads its operands first tests them first
pub takes_act : {A : Type 0} {pops : List ValueKind} {stack : List Value} {r : Result A Fault} (f : A → Act Fault After) → Takes pops stack r → TestsFirst pops stack (on_ok f r)
takes_act f k = record { underflow = λ h. ap (on_ok f) (k.underflow h); types = λ h t. ap (on_ok f) (k.types h t) }

pub takes_ok : {A : Type 0} {pops : List ValueKind} {stack : List Value} {r : Result A Fault} (f : A → Stepped) → Takes pops stack r → TestsFirst pops stack (Gives (r >>= f))
takes_ok f k = record {
  underflow = λ h. ap (λ (x : Result _ Fault). Gives (x >>= f)) (k.underflow h);
  types = λ h t. ap (λ (x : Result _ Fault). Gives (x >>= f)) (k.types h t);
}
