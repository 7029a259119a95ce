-- Statements of a program that is too long, without some that no later fault needs.
use Rattle.std.specs.Prelude.{◌≡◌, ℕ, ◌+◌, ◌<◌, ◌≤◌, ◌⊎◌, Bool, false, if◌then◌else◌, List, [], ◌∷◌, ◌++◌, Option, None, Some, Result, Ok, Err}
use Rattle.std.specs.List.{list_any}
use Rattle.std.specs.Option.{option_map_or}
use Rattle.std.specs.Str.{bytes_eq}
use Rattle.teal_value.specs.declared.failure.Failure.{Failure}
use Rattle.teal_value.specs.Answer.{Fails}
use Rattle.teal_value.specs.Choice.{or_else}
use Rattle.teal_source.specs.declared.command.Command.{Command}
use Rattle.teal_source.specs.declared.command.Command.TheVariants.{Jump}
use Rattle.teal_source.specs.declared.statement.Statement.{Statement}
use Rattle.teal_source.specs.declared.fault.AsmFaultKind.TheVariants as kind
use Rattle.teal_source.specs.declared.fault.AsmFault.{AsmFault}
use Rattle.teal_source.specs.Operands.{Word}
use Rattle.teal_source.specs.Statements.{gathered_uints, gathered_strings, has_label, is_uint_block, is_byte_block}
use Rattle.teal_asm.specs.Meaning.{Meant, Meaning, commands_in}
use Rattle.teal_asm.specs.Program.{total_size}

-- ---- the first branch that has a fault, found by labels alone: whether its label stands before it, behind it, or nowhere

-- the label that a command branches to
abbrev pub branch_label : Option Command → Option Word
branch_label (Some (Jump o name)) = Some name
branch_label _ = None

-- the fault of a branch to a label, behind statements with its own, and before others
abbrev pub own_fault : ℕ → Option Word → List Statement → List Statement → Option AsmFault
own_fault line None before later = None
own_fault line (Some name) before later =
    if list_any (has_label name) before then Some (record { line = line; kind = kind.LabelBehind })
    else if list_any (has_label name) later then None else Some (record { line = line; kind = kind.LabelMissing })

-- the first fault of statements, behind others
abbrev pub branch_fault : List Statement → List Statement → Option AsmFault
branch_fault before [] = None
branch_fault before (s ∷ ss) = or_else (own_fault s.line (branch_label s.command) (before ++ s ∷ []) ss) (branch_fault (before ++ s ∷ []) ss)

-- the first fault of statements, behind others and before others
abbrev pub front_fault : List Statement → List Statement → List Statement → Option AsmFault
front_fault before [] later = None
front_fault before (s ∷ ss) later = or_else (own_fault s.line (branch_label s.command) (before ++ s ∷ []) (ss ++ later)) (front_fault (before ++ s ∷ []) ss later)

-- a branch to a label
abbrev pub jumps_to : Word → Statement → Bool
jumps_to name s = option_map_or (λ label. bytes_eq name label) (branch_label s.command) false

-- a branch to a label that stands already
abbrev pub leads_back : List Statement → Option Word → Bool
leads_back before label = option_map_or (λ name. list_any (has_label name) before) label false

-- ---- what is kept

abbrev pub command_count : List Statement → ℕ
command_count [] = 0
command_count (s ∷ ss) = commands_in s.command + command_count ss

-- a statement without a label, without which the first fault is the same, whatever stands behind
pub record IsNeedless (before : List Statement) (s : Statement) : Type 0 where
  pub label : s.label ≡ None
  pub faults : (later : List Statement) → branch_fault [] (before ++ later) ≡ branch_fault [] (before ++ s ∷ later)

-- what is kept of all statements: all of them, or so many that the program is too long
pub record Thins (kept all : List Statement) : Type 0 where
  pub labels : (name : Word) → list_any (has_label name) kept ≡ list_any (has_label name) all
  pub faults : (later : List Statement) → branch_fault [] (kept ++ later) ≡ branch_fault [] (all ++ later)
  pub fewer : command_count kept ≤ command_count all
  pub uints : gathered_uints kept ≡ gathered_uints all
  pub strings : gathered_strings kept ≡ gathered_strings all
  pub uint_block : list_any (λ s. is_uint_block s.command) kept ≡ list_any (λ s. is_uint_block s.command) all
  pub byte_block : list_any (λ s. is_byte_block s.command) kept ≡ list_any (λ s. is_byte_block s.command) all
  pub long : (kept ≡ all) ⊎ (1023 < command_count kept)

-- a call that leaves what is kept of the statements that are meant
abbrev pub LeavesThinned : {X F : Type 0} → Result X (Failure F) → List Statement → Result (List Statement) F → Type 0
LeavesThinned (Ok x) kept meant = (all : List Statement) × (meant ≡ Ok all) × Thins kept all
LeavesThinned (Err e) kept meant = Fails e meant

-- a call that gives what is kept of the statements that are meant
abbrev pub GivesThinned : {X F : Type 0} → (X → List Statement) → Result X (Failure F) → Result (List Statement) F → Type 0
GivesThinned view (Ok x) meant = (all : List Statement) × (meant ≡ Ok all) × Thins (view x) all
GivesThinned view (Err e) meant = Fails e meant

-- the same instructions, or on both sides more than a program has room for
abbrev pub AreSameOrLong : List Meant → List Meant → Type 0
AreSameOrLong is js = (is ≡ js) ⊎ ((1023 < total_size is) × (1023 < total_size js))

pub record IsSameOrLong (m n : Meaning) : Type 0 where
  pub version : m.version ≡ n.version
  pub instructions : AreSameOrLong m.instructions n.instructions

-- a call that gives a meaning whose program is the one that is meant, or too long as that is
abbrev pub GivesProgram : {X F : Type 0} → (X → Meaning) → Result X (Failure F) → Result Meaning F → Type 0
GivesProgram view (Ok x) meant = (m : Meaning) × (meant ≡ Ok m) × IsSameOrLong (view x) m
GivesProgram view (Err e) meant = Fails e meant
