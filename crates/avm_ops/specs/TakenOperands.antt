-- The operands that a row of the opcode table takes are tested before all else. The statements of the laws.
use Rattle.std.specs.Prelude.{◌≡◌, ◌<◌, ◌≤◌, ◌&&◌, Bool, true, false, List, [], ◌∷◌, length, reverse}
use Rattle.teal_value.specs.declared.value.Value.{Value}
use Rattle.teal_value.specs.declared.value.Value.TheVariants.{Uint, Bytes}
use Rattle.teal_value.specs.declared.fault.Fault.TheVariants as fault
use Rattle.teal_table.specs.declared.shape.ValueKind.{ValueKind}
use Rattle.teal_table.specs.declared.shape.ValueKind.TheVariants as kind
use Rattle.teal_table.specs.declared.opcode.Opcode.{Opcode}
use Rattle.teal_table.specs.Table.{row_of}
use Rattle.teal_code.specs.declared.instr.Immediates.{Immediates}
use Rattle.avm_items.specs.Acts.{stop}
use Rattle.avm_ops.specs.Frame.{Context}
use Rattle.avm_ops.specs.Effect.{effect}

abbrev pub is_kind : ValueKind → Value → Bool
is_kind kind.Uint (Uint n) = true
is_kind kind.Bytes (Bytes s) = true
is_kind kind.Any v = true
is_kind _ _ = false

-- whether the values on top are of these kinds, the top first
abbrev pub are_kinds : List ValueKind → List Value → Bool
are_kinds [] stack = true
are_kinds (k ∷ ks) [] = false
are_kinds (k ∷ ks) (v ∷ stack) = is_kind k v && are_kinds ks stack

-- Fewer values than the row takes are an underflow.
abbrev pub Underflows : Type 0
Underflows = (c : Context) (o : Opcode) (i : Immediates) → length c.machine.stack < length (row_of o).pops → effect c o i ≡ stop fault.Underflow

-- Where there are enough, a value of another type than the row takes is at fault.
abbrev pub TestsTypes : Type 0
TestsTypes = (c : Context) (o : Opcode) (i : Immediates) → length (row_of o).pops ≤ length c.machine.stack → are_kinds (reverse (row_of o).pops) c.machine.stack ≡ false
    → effect c o i ≡ stop fault.WrongType
