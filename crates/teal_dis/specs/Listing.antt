-- The listing of a program: its version, and its instructions one a line, each as its opcode's name and its operands.
use Rattle.std.specs.Prelude.{ℕ, zero, suc, ◌+◌, ◌==◌, Bool, false, if◌then◌else◌, List, [], ◌∷◌, ◌++◌, map, codes, decimal, Option, Some, None}
use Rattle.std.specs.List.{list_any}
use Rattle.std.specs.Option.{option_map_or}
use Rattle.hex.specs.Hex.{encode_lower}
use Rattle.teal_table.specs.declared.shape.Shape.{Shape}
use Rattle.teal_table.specs.declared.shape.Shape.TheVariants as shape
use Rattle.teal_table.specs.declared.shape.Version.{Version}
use Rattle.teal_table.specs.declared.shape.Version.TheVariants.{Two, Three}
use Rattle.teal_table.specs.declared.txn_fields.TxnField.{TxnField}
use Rattle.teal_table.specs.declared.global_fields.GlobalField.{GlobalField}
use Rattle.teal_table.specs.Table.{row_of, name_of}
use Rattle.teal_table.specs.Fields.{txn_name, txn_field_at, global_name, global_field_at}
use Rattle.teal_code.specs.declared.instr.Immediates.{Immediates}
use Rattle.teal_code.specs.declared.instr.Immediates.TheVariants as is
use Rattle.teal_code.specs.declared.instr.Instr.{Instr}
use Rattle.teal_check.specs.declared.program.PlacedInstr.{PlacedInstr}
use Rattle.teal_check.specs.WellFormed.{WellFormed}
use Rattle.teal_text.specs.PlainWords.{line_of_words, text_of_lines}

abbrev pub Word : Type 0
Word = List ℕ

-- ---- operands

-- a byte constant
abbrev pub constant : List ℕ → Word
constant bytes = codes "0x" ++ encode_lower bytes

-- a field by its name; a number that no field has stands for itself
abbrev pub txn_word : ℕ → Option TxnField → Word
txn_word number None = decimal number
txn_word number (Some f) = txn_name f

abbrev pub global_word : ℕ → Option GlobalField → Word
global_word number None = decimal number
global_word number (Some f) = global_name f

abbrev pub txn_field : ℕ → Word
txn_field number = txn_word number (txn_field_at number)

-- the field that an opcode of this shape reads
abbrev pub field : Shape → ℕ → Word
field shape.GlobalField number = global_word number (global_field_at number)
field _ number = txn_field number

-- what stands behind the name of an opcode of this shape; the target of a branch is given
abbrev pub operands : Shape → Word → Immediates → List Word
operands shape target is.Nothing = []
operands shape target (is.Index i) = decimal i ∷ []
operands shape target (is.Field f) = field shape f ∷ []
operands shape target (is.GroupField t f) = decimal t ∷ txn_field f ∷ []
operands shape target (is.ArrayField f i) = txn_field f ∷ decimal i ∷ []
operands shape target (is.GroupArrayField t f i) = decimal t ∷ txn_field f ∷ decimal i ∷ []
operands shape target (is.Bounds s e) = decimal s ∷ decimal e ∷ []
operands shape target (is.Offset n) = target ∷ []
operands shape target (is.UintBlock ns) = map decimal ns
operands shape target (is.ByteBlock ss) = map constant ss
operands shape target (is.Uint n) = decimal n ∷ []
operands shape target (is.Bytes s) = constant s ∷ []

abbrev pub words_of : Word → Instr → List Word
words_of target i = name_of i.opcode ∷ operands (row_of i.opcode).immediates target i.immediates

-- ---- one line, where a target is a place: the offset counts from the end of the branch, which is three bytes long

abbrev pub offset_of : Immediates → ℕ
offset_of (is.Offset n) = n
offset_of _ = 0

abbrev pub line_of : ℕ → Instr → List ℕ
line_of place i = line_of_words (words_of (decimal (place + 3 + offset_of i.immediates)) i)

-- ---- labels: the targets of branches, numbered from 1 in the order of their places

abbrev pub leads_to : ℕ → PlacedInstr → Bool
leads_to n p = option_map_or (λ target. target == n) p.target false

abbrev pub is_target : List PlacedInstr → ℕ → Bool
is_target placed n = list_any (leads_to n) placed

-- how many of the instructions before the one with this number are targets
unfoldable pub targets_before : List PlacedInstr → ℕ → ℕ
targets_before placed zero = 0
targets_before placed (suc n) = targets_before placed n + (if is_target placed n then 1 else 0)

abbrev pub label_of : List PlacedInstr → ℕ → Word
label_of placed n = codes "label" ++ decimal (targets_before placed n + 1)

-- the line before an instruction, or before the end, where a branch leads there
abbrev pub label_line : List PlacedInstr → ℕ → List (List Word)
label_line placed n = if is_target placed n then ((label_of placed n ++ codes ":") ∷ []) ∷ [] else []

-- ---- a program

abbrev pub target_word : List PlacedInstr → Option ℕ → Word
target_word placed None = []
target_word placed (Some n) = label_of placed n

abbrev pub instruction_line : List PlacedInstr → PlacedInstr → List Word
instruction_line placed p = words_of (target_word placed p.target) p.instr

-- the lines of the instructions from the one with a number on
abbrev pub listing_from : List PlacedInstr → ℕ → List PlacedInstr → List (List Word)
listing_from placed n [] = label_line placed n
listing_from placed n (p ∷ ps) = label_line placed n ++ instruction_line placed p ∷ listing_from placed (n + 1) ps

abbrev pub version_digit : Version → Word
version_digit Two = codes "2"
version_digit Three = codes "3"

abbrev pub pragma_line : Version → List Word
pragma_line version = codes "#pragma" ∷ codes "version" ∷ version_digit version ∷ []

abbrev pub listing_lines : WellFormed → List (List Word)
listing_lines p = pragma_line p.version ∷ listing_from p.placed 0 p.placed

abbrev pub listing : WellFormed → List ℕ
listing p = text_of_lines (listing_lines p)

-- ---- lines, counted from 0: the version stands on the first, and a label on a line of its own

-- the line of the instruction with a number; behind the last one, how many lines there are
abbrev pub line_number : List PlacedInstr → ℕ → ℕ
line_number placed n = 1 + n + targets_before placed (n + 1)
