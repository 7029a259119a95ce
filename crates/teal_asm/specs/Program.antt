-- The program that a text means: its version and its instructions, each varuint as short as it can be.
use Rattle.std.specs.Prelude.{ℕ, ◌+◌, ◌-◌, nat_lt, if◌then◌else◌, List, [], ◌∷◌, ◌++◌, length, take, Result, Ok}
use Rattle.std.specs.Result.{result_unwrap_or}
use Rattle.teal_value.specs.Answer.{◌>>=◌}
use Rattle.teal_table.specs.declared.shape.Version.{Version}
use Rattle.teal_table.specs.declared.shape.Version.TheVariants.{Two, Three}
use Rattle.teal_code.specs.declared.instr.Immediates.TheVariants as is
use Rattle.teal_code.specs.Encoding.{instr_encoding}
use Rattle.teal_code.specs.Limits.{most_program_bytes}
use Rattle.teal_text.specs.Lines.{lines_of}
use Rattle.teal_source.specs.declared.fault.AsmFaultKind.TheVariants as kind
use Rattle.teal_source.specs.declared.fault.AsmFault.{AsmFault}
use Rattle.teal_source.specs.Statements.{fault_at}
use Rattle.teal_asm.specs.Meaning.{Meant, Straight, Branch, Meaning, meaning}

-- how many bytes an instruction takes
abbrev pub size : Meant → ℕ
size (Straight o immediates) = length (instr_encoding (record { opcode = o; immediates = immediates }))
size (Branch o target) = 3

abbrev pub total_size : List Meant → ℕ
total_size [] = 0
total_size (i ∷ is) = size i + total_size is

-- An instruction with a number, before others: a branch leads forward, over the instructions up to its target.
abbrev pub instruction_encoding : ℕ → Meant → List Meant → List ℕ
instruction_encoding number (Straight o immediates) rest = instr_encoding (record { opcode = o; immediates = immediates })
instruction_encoding number (Branch o target) rest =
    instr_encoding (record { opcode = o; immediates = is.Offset (total_size (take (target - (number + 1)) rest)) })

unfoldable pub encoding : ℕ → List Meant → List ℕ
encoding number [] = []
encoding number (i ∷ is) = instruction_encoding number i is ++ encoding (number + 1) is

abbrev pub version_byte : Version → ℕ
version_byte Two = 2
version_byte Three = 3

unfoldable pub program : Meaning → List ℕ
program m = version_byte m.version ∷ encoding 0 m.instructions

-- a program of at most 1024 bytes
abbrev pub short_program : ℕ → List ℕ → Result (List ℕ) AsmFault
short_program last_line bytes = if nat_lt most_program_bytes (length bytes) then fault_at last_line kind.TooLong else Ok bytes

-- how many lines a text has
abbrev pub line_count : List ℕ → ℕ
line_count text = length (result_unwrap_or (lines_of text) [])

-- what the assembler answers: the program of the text, or its first fault
unfoldable pub assembled : List ℕ → Result (List ℕ) AsmFault
assembled text = meaning text >>= λ m. short_program (line_count text) (program m)
