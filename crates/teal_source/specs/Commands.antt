-- What a name with its operands asks for.
use Rattle.std.specs.Prelude.{if◌then◌else◌, List, [], ◌∷◌, codes, Option, Some, None, Result, Ok, Err}
use Rattle.std.specs.Str.{bytes_eq}
use Rattle.teal_value.specs.Answer.{◌>>=◌}
use Rattle.teal_table.specs.declared.shape.Shape.{Shape}
use Rattle.teal_table.specs.declared.shape.Shape.TheVariants as shape
use Rattle.teal_table.specs.declared.shape.Version.{Version}
use Rattle.teal_table.specs.declared.opcode.Opcode.{Opcode}
use Rattle.teal_table.specs.declared.opcode.Opcode.TheVariants as op
use Rattle.teal_table.specs.declared.txn_fields.TxnField.{TxnField}
use Rattle.teal_table.specs.Table.{row_of, opcode_named, only_in}
use Rattle.teal_table.specs.Fields.{is_array, txn_field_named}
use Rattle.teal_code.specs.declared.instr.Immediates.TheVariants as is
use Rattle.teal_source.specs.declared.command.Command.{Command}
use Rattle.teal_source.specs.declared.command.Command.TheVariants.{Int, Byte, Jump, Plain}
use Rattle.teal_source.specs.declared.fault.AsmFaultKind.{AsmFaultKind}
use Rattle.teal_source.specs.declared.fault.AsmFaultKind.TheVariants.{UnknownName, Operands}
use Rattle.teal_source.specs.Operands.{Word, literals_in, byte_number, any_number, int_value, literal_value, address_value, txn_field_value, global_field_value}

abbrev pub Asked : Type 0 → Type 0
Asked A = Result A AsmFaultKind

-- each of a list
abbrev pub each : {A B : Type 0} → (A → Asked B) → List A → Asked (List B)
each f [] = Ok []
each f (x ∷ xs) = f x >>= λ y. each f xs >>= λ ys. Ok (y ∷ ys)

-- ---- numbers of operands

abbrev pub no_operand : List Word → Asked (Unit {0})
no_operand [] = Ok tt
no_operand _ = Err Operands

abbrev pub only_operand : {A : Type 0} → List A → Asked A
only_operand (a ∷ []) = Ok a
only_operand _ = Err Operands

abbrev pub two_operands : List Word → Asked (Word × Word)
two_operands (a ∷ b ∷ []) = Ok (a, b)
two_operands _ = Err Operands

abbrev pub three_operands : List Word → Asked (Word × Word × Word)
three_operands (a ∷ b ∷ c ∷ []) = Ok (a, b, c)
three_operands _ = Err Operands

-- ---- kinds of fields: an unknown field passes here, and its name is refused with the operands

abbrev pub passes_as_scalar : Option TxnField → Asked (Unit {0})
passes_as_scalar None = Ok tt
passes_as_scalar (Some f) = if is_array f then Err Operands else Ok tt

abbrev pub passes_as_array : Option TxnField → Asked (Unit {0})
passes_as_array None = Ok tt
passes_as_array (Some f) = if is_array f then Ok tt else Err Operands

abbrev pub scalar : Word → Asked (Unit {0})
scalar w = passes_as_scalar (txn_field_named w)

abbrev pub array : Word → Asked (Unit {0})
array w = passes_as_array (txn_field_named w)

-- ---- commands with fields: `txn F I` is `txna F I`, and so its like

abbrev pub txn_command : Opcode → Word → Asked Command
txn_command o f = scalar f >>= λ _. txn_field_value f >>= λ n. Ok (Plain o (is.Field n))

abbrev pub array_command : Opcode → Word → Word → Asked Command
array_command o f i = array f >>= λ _. txn_field_value f >>= λ n. byte_number i >>= λ k. Ok (Plain o (is.ArrayField n k))

abbrev pub group_command : Opcode → Word → Word → Asked Command
group_command o t f = scalar f >>= λ _. byte_number t >>= λ g. txn_field_value f >>= λ n. Ok (Plain o (is.GroupField g n))

abbrev pub group_array_command : Opcode → Word → Word → Word → Asked Command
group_array_command o t f i =
    array f >>= λ _. byte_number t >>= λ g. txn_field_value f >>= λ n. byte_number i >>= λ k. Ok (Plain o (is.GroupArrayField g n k))

abbrev pub txn_or_array : Opcode → Opcode → List Word → Asked Command
txn_or_array scalars arrays (f ∷ []) = txn_command scalars f
txn_or_array scalars arrays (f ∷ i ∷ []) = array_command arrays f i
txn_or_array scalars arrays _ = Err Operands

abbrev pub group_or_array : List Word → Asked Command
group_or_array (t ∷ f ∷ []) = group_command op.Gtxn t f
group_or_array (t ∷ f ∷ i ∷ []) = group_array_command op.Gtxna t f i
group_or_array _ = Err Operands

-- ---- by the immediates that an opcode has

abbrev pub with_operands : Version → Opcode → Shape → List Word → Asked Command
with_operands version o shape.Nothing ws = no_operand ws >>= λ _. Ok (Plain o is.Nothing)
with_operands version o shape.Index ws = only_operand ws >>= λ w. byte_number w >>= λ i. Ok (Plain o (is.Index i))
with_operands version o shape.TxnField ws = txn_or_array op.Txn op.Txna ws
with_operands version o shape.GlobalField ws = only_operand ws >>= λ w. global_field_value version w >>= λ n. Ok (Plain o (is.Field n))
with_operands version o shape.GroupField ws = group_or_array ws
with_operands version o shape.ArrayField ws = two_operands ws >>= λ p. array_command o p.0 p.1
with_operands version o shape.GroupArrayField ws = three_operands ws >>= λ p. group_array_command o p.0 p.1 p.2
with_operands version o shape.StackField ws = txn_or_array op.Gtxns op.Gtxnsa ws
with_operands version o shape.StackArrayField ws = two_operands ws >>= λ p. array_command o p.0 p.1
with_operands version o shape.Bounds ws = two_operands ws >>= λ p. byte_number p.0 >>= λ s. byte_number p.1 >>= λ e. Ok (Plain o (is.Bounds s e))
with_operands version o shape.Offset ws = only_operand ws >>= λ w. Ok (Jump o w)
with_operands version o shape.UintBlock ws = each any_number ws >>= λ ns. Ok (Plain o (is.UintBlock ns))
with_operands version o shape.ByteBlock ws = each literal_value (literals_in ws) >>= λ ss. Ok (Plain o (is.ByteBlock ss))
with_operands version o shape.Uint ws = only_operand ws >>= λ w. any_number w >>= λ n. Ok (Plain o (is.Uint n))
with_operands version o shape.Bytes ws = only_operand (literals_in ws) >>= λ l. literal_value l >>= λ s. Ok (Plain o (is.Bytes s))

-- ---- by name: `int`, `byte` and `addr` are gathered, and the others are opcodes of the version

abbrev pub opcode_command : Version → Option Opcode → List Word → Asked Command
opcode_command version None ws = Err UnknownName
opcode_command version (Some o) ws = with_operands version o (row_of o).immediates ws

unfoldable pub command : Version → Word → List Word → Asked Command
command version name ws =
    if bytes_eq name (codes "int") then (only_operand ws >>= λ w. int_value w >>= λ n. Ok (Int n))
    else if bytes_eq name (codes "byte") then (only_operand (literals_in ws) >>= λ l. literal_value l >>= λ s. Ok (Byte s))
    else if bytes_eq name (codes "addr") then (only_operand (literals_in ws) >>= λ l. address_value l >>= λ s. Ok (Byte s))
    else opcode_command version (only_in version (opcode_named name)) ws
