-- What is kept of the statements of a text so far.
use Rattle.std.specs.Prelude.{◌≡◌, ◌≤◌, Bool, true, false, List, [], ◌∷◌, ◌++◌, length, is_some, Result, Ok, Err}
use Rattle.std.specs.List.{list_any}
use Rattle.std.specs.Map.{lookup}
use Rattle.std.specs.Str.{bytes_eq}
use Rattle.teal_value.specs.declared.failure.Failure.{Failure}
use Rattle.teal_value.specs.Answer.{Fails}
use Rattle.teal_source.specs.declared.statement.Statement.{Statement}
use Rattle.teal_source.specs.declared.fault.AsmFaultKind.{AsmFaultKind}
use Rattle.teal_asm.specs.declared.body.Body.{Body}
use Rattle.teal_source.specs.Statements.{appended, behind, gathered_uints, gathered_strings, is_uint_block, is_byte_block}
use Rattle.teal_source.specs.Operands.{Word}
use Rattle.teal_asm.specs.Meaning.{labels_from}
use Rattle.teal_asm.specs.Thinned.{Thins, command_count, front_fault, jumps_to}

-- what is kept beside these statements
pub record IsBodyOf (b : Body) (ss : List Statement) : Type 0 where
  pub uints : b.uints.keys ≡ gathered_uints ss
  pub strings : b.strings ≡ gathered_strings ss
  pub labels : b.labels ≡ labels_from 0 ss
  pub commands : b.commands ≡ command_count ss
  pub uint_block : b.has_uint_block ≡ list_any (λ s. is_uint_block s.command) ss
  pub byte_block : b.has_byte_block ≡ list_any (λ s. is_byte_block s.command) ss
  pub few_uints : length b.uints.keys ≤ 256
  pub few_strings : length b.strings ≤ 256
  pub targets : (name : Word) → is_some (lookup (bytes_eq name) b.targets) ≡ true → list_any (jumps_to name) ss ≡ true
  pub leads_back : b.leads_back ≡ true → (later : List Statement) → is_some (front_fault [] ss later) ≡ true

abbrev pub IsBody : Body → Type 0
IsBody b = IsBodyOf b b.statements.items

-- whether a statement is to stand behind these: then all but itself is noted, else what is kept of them is kept of it too
abbrev pub Notes : Result Bool (Failure AsmFaultKind) → Body → List Statement → Statement → Type 0
Notes (Ok true) b ss s = (appended ss (behind ss s) ≡ Ok (ss ++ s ∷ [])) × IsBodyOf b (ss ++ s ∷ [])
Notes (Ok false) b ss s = ((all : List Statement) × (appended ss (behind ss s) ≡ Ok all) × Thins ss all) × IsBodyOf b ss
Notes (Err e) b ss s = Fails e (appended ss (behind ss s))
