-- Instructions of the program, as the text means them.
use Rattle.std.specs.Prelude.{◌≡◌, ℕ, ◌+◌, ◌≤◌, List, ◌++◌, length, take, map, slice_index_or, Result, Ok}
use Rattle.teal_value.specs.Answer.{◌>>=◌}
use Rattle.teal_source.specs.declared.statement.Statement.{Statement}
use Rattle.teal_source.specs.declared.fault.AsmFault.{AsmFault}
use Rattle.teal_asm.specs.declared.emit.Instruction.{Instruction}
use Rattle.teal_asm.specs.declared.emit.Instruction.TheVariants as code
use Rattle.teal_asm.specs.declared.meaning.Meaning.{Meaning as CodeMeaning}
use Rattle.teal_asm.specs.Meaning.{Meaning, Meant, Straight, Branch, optional_instruction}
use Rattle.teal_asm.specs.Program.{total_size}

abbrev pub meant : Instruction → Meant
meant (code.Straight i) = Straight i.opcode i.immediates
meant (code.Branch o target) = Branch o target

abbrev pub all_meant : List Instruction → List Meant
all_meant is = map meant is

-- the instructions so far, with the one of a statement behind them, among all statements
abbrev pub with_instruction : List Statement → List Meant → Statement → Result (List Meant) AsmFault
with_instruction all so_far s = optional_instruction all (length so_far) s.line s.command >>= λ i. Ok (so_far ++ i)

abbrev pub meaning_in : CodeMeaning → Meaning
meaning_in m = record { version = m.version; instructions = all_meant m.instructions.items }

-- the place of each instruction, counted from behind the version, and of the end
pub record ArePlaces (is : List Meant) (places : List ℕ) : Type 0 where
  pub count : length places ≡ length is + 1
  pub small : total_size is ≤ 1023
  pub each : (k : ℕ) → k ≤ length is → slice_index_or places k 0 ≡ total_size (take k is)
