-- The shortest encoding of an instruction.
use Rattle.std.specs.Prelude.{◌≡◌, ℕ, ◌+◌, ◌<◌, ◌≤◌, List, ◌++◌, length, Ok}
use Rattle.base64.specs.GeneralPurpose.{IsBytes}
use Rattle.teal_table.specs.declared.shape.Version.{Version}
use Rattle.teal_code.specs.declared.instr.Immediates.{Immediates}
use Rattle.teal_code.specs.declared.instr.Immediates.TheVariants as is
use Rattle.teal_code.specs.declared.instr.Instr.{Instr}
use Rattle.teal_code.specs.Grammar.{Encodes}
use Rattle.teal_code.specs.Reader.{read_at}

-- an offset has two bytes
abbrev pub IsShortOffset : Immediates → Type 0
IsShortOffset (is.Offset n) = n < 65536
IsShortOffset _ = Unit {0}

-- The text encodes the instruction, is read as it wherever it stands, and no bytes that encode the instruction are fewer.
pub record IsShortest (version : Version) (i : Instr) (text : List ℕ) : Type 0 where
  pub encodes : Encodes version text i
  pub reads : (before behind : List ℕ) → read_at version (before ++ (text ++ behind)) (length before) ≡ Ok (i, length before + length text)
  pub least : (other : List ℕ) → IsBytes other → Encodes version other i → length text ≤ length other
