-- What an instruction is looked up in: the gathered constants and the labels of all statements.
use Rattle.std.specs.Prelude.{◌≡◌, ℕ, ◌+◌, ◌^◌, ◌<◌, ◌≤◌, true, nat_eq, List, [], ◌∷◌, length, Option, Some, None}
use Rattle.std.specs.List.{list_any}
use Rattle.std.specs.Map.{lookup}
use Rattle.std.specs.Str.{bytes_eq}
use Rattle.teal_source.specs.declared.command.Command.{Command}
use Rattle.teal_source.specs.declared.command.Command.TheVariants.{Int, Byte}
use Rattle.teal_source.specs.declared.statement.Statement.{Statement}
use Rattle.teal_asm.specs.declared.resolve.Constants.{Constants}
use Rattle.teal_source.specs.Statements.{gathered_uints, gathered_strings}
use Rattle.teal_asm.specs.Meaning.{gathered_blocks, labels_from}

pub record AreConstants (c : Constants) (all : List Statement) : Type 0 where
  pub uints : c.uints.keys ≡ gathered_uints all
  pub strings : c.strings ≡ gathered_strings all
  pub labels : c.labels ≡ labels_from 0 all
  pub blocks : c.blocks ≡ length (gathered_blocks all)

-- few enough that their numbers fit
pub record IsShort (c : Constants) : Type 0 where
  pub uints : length c.uints.keys ≤ 256
  pub strings : length c.strings ≤ 256
  pub numbers : (name : List ℕ) (n : ℕ) → lookup (bytes_eq name) c.labels ≡ Some n → c.blocks + n < 2 ^ 64

-- the constant of a command is among the gathered ones
abbrev pub HasConstant : List ℕ → List (List ℕ) → Command → Type 0
HasConstant uints strings (Int n) = list_any (nat_eq n) uints ≡ true
HasConstant uints strings (Byte s) = list_any (bytes_eq s) strings ≡ true
HasConstant uints strings _ = Unit {0}

abbrev pub HasItsConstant : List ℕ → List (List ℕ) → Option Command → Type 0
HasItsConstant uints strings None = Unit {0}
HasItsConstant uints strings (Some c) = HasConstant uints strings c

abbrev pub HasConstants : List ℕ → List (List ℕ) → List Statement → Type 0
HasConstants uints strings [] = Unit {0}
HasConstants uints strings (s ∷ ss) = HasItsConstant uints strings s.command × HasConstants uints strings ss
