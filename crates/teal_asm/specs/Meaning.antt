-- The meaning of a text: the instructions of its program, or its first fault. Faults come in three rounds, and the first
-- fault of the first round that has one counts: tokens of the whole text; then line by line; then branches, and at last
-- the program's length.
use Rattle.std.specs.Prelude.{ℕ, ◌+◌, ◌==◌, if◌then◌else◌, nat_le, nat_eq, List, [], ◌∷◌, ◌++◌, length, Option, Some, None, Result, Ok}
use Rattle.std.specs.List.{position_or_len}
use Rattle.std.specs.Map.{lookup}
use Rattle.std.specs.Str.{bytes_eq}
use Rattle.teal_value.specs.Answer.{◌>>=◌}
use Rattle.teal_table.specs.declared.shape.Version.{Version}
use Rattle.teal_table.specs.declared.opcode.Opcode.{Opcode}
use Rattle.teal_table.specs.declared.opcode.Opcode.TheVariants as op
use Rattle.teal_code.specs.declared.instr.Immediates.{Immediates}
use Rattle.teal_code.specs.declared.instr.Immediates.TheVariants as is
use Rattle.teal_text.specs.Lines.{lines_of}
use Rattle.teal_source.specs.declared.statement.Statement.{Statement}
use Rattle.teal_source.specs.declared.command.Command.{Command}
use Rattle.teal_source.specs.declared.command.Command.TheVariants.{Int, Byte, Jump, Plain}
use Rattle.teal_source.specs.declared.fault.AsmFaultKind.TheVariants as kind
use Rattle.teal_source.specs.declared.fault.AsmFault.{AsmFault}
use Rattle.teal_source.specs.Operands.{Word}
use Rattle.teal_source.specs.Statements.{Words, fault_at, on_text, words_of_lines, pragma_version, statements, gathered_uints, gathered_strings}

-- an instruction as a text means it: a branch names the number of the instruction that it leads to, the count for the end
pub data Meant : Type 0 where
  Straight : (opcode : Opcode) (immediates : Immediates) → Meant
  Branch : (opcode : Opcode) (target : ℕ) → Meant

-- what a text means
pub record Meaning : Type 0 where
  pub version : Version
  pub instructions : List Meant

-- ---- numbers of instructions

abbrev pub commands_in : Option Command → ℕ
commands_in None = 0
commands_in (Some c) = 1

abbrev pub label_entry : Option Word → ℕ → List (Word × ℕ)
label_entry None n = []
label_entry (Some name) n = (name, n) ∷ []

-- the labels, each with the number of the instruction that it stands before, where the first instruction has this number
unfoldable pub labels_from : ℕ → List Statement → List (Word × ℕ)
labels_from n [] = []
labels_from n (s ∷ ss) = label_entry s.label n ++ labels_from (n + commands_in s.command) ss

abbrev pub label_number : ℕ → List Statement → Word → Option ℕ
label_number n ss name = lookup (bytes_eq name) (labels_from n ss)

-- ---- gathered constants: a block of each kind that is used, in front

abbrev pub uint_block_in_front : List ℕ → List Meant
uint_block_in_front ns = if length ns == 0 then [] else Straight op.Intcblock (is.UintBlock ns) ∷ []

abbrev pub byte_block_in_front : List (List ℕ) → List Meant
byte_block_in_front ss = if length ss == 0 then [] else Straight op.Bytecblock (is.ByteBlock ss) ∷ []

abbrev pub gathered_blocks : List Statement → List Meant
gathered_blocks ss = uint_block_in_front (gathered_uints ss) ++ byte_block_in_front (gathered_strings ss)

-- the instruction that reads constant i, in its short form where there is one
abbrev pub read_uint_constant : ℕ → Meant
read_uint_constant i =
    if i == 0 then Straight op.Intc0 is.Nothing else if i == 1 then Straight op.Intc1 is.Nothing
    else if i == 2 then Straight op.Intc2 is.Nothing else if i == 3 then Straight op.Intc3 is.Nothing
    else Straight op.Intc (is.Index i)

abbrev pub read_byte_constant : ℕ → Meant
read_byte_constant i =
    if i == 0 then Straight op.Bytec0 is.Nothing else if i == 1 then Straight op.Bytec1 is.Nothing
    else if i == 2 then Straight op.Bytec2 is.Nothing else if i == 3 then Straight op.Bytec3 is.Nothing
    else Straight op.Bytec (is.Index i)

-- ---- instructions

-- a branch with a number to a label's, which has to stand behind it
abbrev pub branch : ℕ → Opcode → ℕ → Option ℕ → Result Meant AsmFault
branch line o number None = fault_at line kind.LabelMissing
branch line o number (Some target) = if nat_le target number then fault_at line kind.LabelBehind else Ok (Branch o target)

-- the instruction with a number that a command of a line stands for, among all statements
abbrev pub instruction : List Statement → ℕ → ℕ → Command → Result Meant AsmFault
instruction all number line (Int n) = Ok (read_uint_constant (position_or_len (nat_eq n) (gathered_uints all)))
instruction all number line (Byte s) = Ok (read_byte_constant (position_or_len (bytes_eq s) (gathered_strings all)))
instruction all number line (Jump o name) = branch line o number (label_number (length (gathered_blocks all)) all name)
instruction all number line (Plain o immediates) = Ok (Straight o immediates)

abbrev pub optional_instruction : List Statement → ℕ → ℕ → Option Command → Result (List Meant) AsmFault
optional_instruction all number line None = Ok []
optional_instruction all number line (Some c) = instruction all number line c >>= λ i. Ok (i ∷ [])

-- the instructions of statements, the first of which has this number
unfoldable pub instructions : List Statement → ℕ → List Statement → Result (List Meant) AsmFault
instructions all number [] = Ok []
instructions all number (s ∷ ss) =
    optional_instruction all number s.line s.command >>= λ i. instructions all (number + commands_in s.command) ss >>= λ is. Ok (i ++ is)

abbrev pub all_instructions : List Statement → Result (List Meant) AsmFault
all_instructions ss = instructions ss (length (gathered_blocks ss)) ss >>= λ is. Ok (gathered_blocks ss ++ is)

-- ---- the text

-- the meaning of a pragma and the lines behind it
abbrev pub meaning_with : Result Version AsmFault → List Words → Result Meaning AsmFault
meaning_with named ls = named >>= λ version. statements version [] ls >>= λ ss. all_instructions ss >>= λ is.
    Ok (record { version = version; instructions = is })

abbrev pub meaning_of_lines : List Words → Result Meaning AsmFault
meaning_of_lines [] = fault_at 1 kind.NoPragma
meaning_of_lines (l ∷ ls) = meaning_with (pragma_version l) ls

unfoldable pub meaning : List ℕ → Result Meaning AsmFault
meaning text = on_text (lines_of text) >>= λ ls. meaning_of_lines (words_of_lines text ls)
