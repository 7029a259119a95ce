-- Opcodes by the names in source text.
use Rattle.std.proofs.Common.{◌≡◌, refl, List, true, false}
use Rattle.teal_table.specs.declared.shape.Shape.{Shape}
use Rattle.teal_table.specs.declared.shape.Shape.TheVariants as shape
use Rattle.teal_table.specs.declared.shape.Version.{Version}
use Rattle.teal_table.specs.declared.opcode.Opcode.{Opcode}
use Rattle.teal_table.specs.declared.opcode.Opcode.TheVariants as op
use Rattle.teal_table.specs.Table.{row_of, opcodes, opcode_named, only_in, code_of, name_of}
use Rattle.teal_source.specs.Operands.{Word}
use Rattle.teal_source.specs.Commands.{command, opcode_command}
use Rattle.std.specs.Prelude.{Some, None, is_some}
use Rattle.teal_table.specs.LeftOut.{left_out_at}
use Rattle.teal_text.specs.PlainWords.{is_plain_word}
use Rattle.teal_source.specs.Statements.{is_pragma, label_name}

-- the name of an opcode asks for that opcode, where the version has it
pub command_named : (version : Version) (o : Opcode) (ws : List Word) → command version (name_of o) ws ≡ opcode_command version (only_in version (Some o)) ws
unfolding row_of opcodes opcode_named command
command_named version op.Err ws = refl
command_named version _ ws = refl

-- the shapes that one opcode alone has
abbrev pub Alone : Opcode → Shape → Type 0
Alone o shape.TxnField = o ≡ op.Txn
Alone o shape.GroupField = o ≡ op.Gtxn
Alone o shape.StackField = o ≡ op.Gtxns
Alone o _ = Unit {0}

pub alone : (o : Opcode) → Alone o (row_of o).immediates
unfolding row_of
alone op.Txn = refl
alone op.Gtxn = refl
alone op.Gtxns = refl
alone _ = tt

-- a name is a word of a listing, neither the pragma nor a label
pub name_is_plain : (o : Opcode) → (is_plain_word (name_of o) ≡ true) × (is_pragma (name_of o) ≡ false) × (label_name (name_of o) ≡ None)
unfolding row_of
name_is_plain op.Err = (refl, refl, refl)
name_is_plain _ = (refl, refl, refl)

-- no opcode of the table is left out
pub not_left_out : (o : Opcode) → is_some (left_out_at (code_of o)) ≡ false
unfolding row_of left_out_at
not_left_out op.Err = refl
not_left_out _ = refl
