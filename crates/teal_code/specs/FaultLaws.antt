-- Why no instruction is read: each fault is what the grammar says of it.
use Rattle.std.specs.Prelude.{◌≡◌, ◌↔◌, ℕ, ◌<◌, List, All, Err}
use Rattle.teal_table.specs.declared.shape.Version.{Version}
use Rattle.teal_code.specs.declared.decode.CodeFault.{CodeFault}
use Rattle.teal_code.specs.Grammar.{Faults}
use Rattle.teal_code.specs.Reader.{read_at}

-- The reader answers a fault exactly where the grammar has it, at any place, also past the end: the byte is no opcode of
-- the version; or no instruction is encoded there, and one is in some longer input that begins so; or one is in none.
abbrev pub FaultsAreTheGrammars : Type 0
FaultsAreTheGrammars =
    (version : Version) (bytes : List ℕ) (place : ℕ) (f : CodeFault) → All (λ b. b < 256) bytes
    → (read_at version bytes place ≡ Err f) ↔ Faults version bytes place f
