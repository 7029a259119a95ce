-- A program whose listing assembles back.
use Rattle.std.specs.Prelude.{◌≡◌, Ok}
use Rattle.teal_check.specs.WellFormed.{WellFormed, checked}
use Rattle.teal_dis.specs.Listing.{listing}
use Rattle.teal_asm.specs.Program.{assembled}
use Rattle.teal_laws.specs.ListedMeaning.{SameInstructions}

-- The listing of the first program assembles to the second, which is checked: it has the same version, instructions and
-- targets, costs the same, and its listing is the same text.
pub record AssemblesTo (p q : WellFormed) : Type 0 where
  pub assembles : assembled (listing p) ≡ Ok q.bytes
  pub is_program : checked q.bytes ≡ Ok q
  pub version : q.version ≡ p.version
  pub instructions : SameInstructions q p
  pub cost : q.cost ≡ p.cost
  pub lists : listing q ≡ listing p

abbrev pub AssemblesBack : WellFormed → Type 0
AssemblesBack p = (q : WellFormed) × AssemblesTo p q
