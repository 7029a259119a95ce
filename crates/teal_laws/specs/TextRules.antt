-- Which texts have a meaning, and what the first fault of the others is. A line is read by itself here, and the rules speak
-- of all statements at once: nothing is gathered, looked up or numbered.
use Rattle.std.specs.Prelude.{◌≡◌, ℕ, ◌≤◌, nat_eq, List, [], ◌∷◌, ◌++◌, length, Contains, Option, Some, None, Result, Ok, Err, if◌then◌else◌}
use Rattle.std.specs.List.{IsDistinct}
use Rattle.std.specs.Str.{bytes_eq}
use Rattle.teal_value.specs.Answer.{◌>>=◌}
use Rattle.teal_table.specs.declared.shape.Version.{Version}
use Rattle.teal_table.specs.declared.opcode.Opcode.{Opcode}
use Rattle.teal_code.specs.declared.instr.Immediates.TheVariants as is
use Rattle.teal_text.specs.Lines.{lines_of}
use Rattle.teal_source.specs.declared.command.Command.TheVariants.{Int, Byte, Jump, Plain}
use Rattle.teal_source.specs.declared.statement.Statement.{Statement}
use Rattle.teal_source.specs.declared.fault.AsmFaultKind.{AsmFaultKind}
use Rattle.teal_source.specs.declared.fault.AsmFaultKind.TheVariants as kind
use Rattle.teal_source.specs.declared.fault.AsmFault.{AsmFault}
use Rattle.teal_source.specs.Commands.{command}
use Rattle.teal_source.specs.Operands.{Word}
use Rattle.teal_source.specs.Statements.{Words, is_pragma, label_name, on_text, optional_command, pragma_version, words_of_lines}

-- ---- a line by itself

abbrev pub said_behind : Version → Words → Option Word → Result Statement AsmFaultKind
said_behind version l None = command version l.first l.more >>= λ c. Ok (record { line = l.line; label = None; command = Some c })
said_behind version l (Some name) = optional_command version l.more >>= λ c. Ok (record { line = l.line; label = Some name; command = c })

-- what a line behind the pragma says: a command, or a label and perhaps a command
abbrev pub said : Version → Words → Result Statement AsmFaultKind
said version l = if is_pragma l.first then Err kind.Version else said_behind version l (label_name l.first)

-- statements are what lines say, one a line
abbrev pub AreSaid : Version → List Words → List Statement → Type 0
AreSaid version [] [] = Unit {0}
AreSaid version (l ∷ ls) (s ∷ ss) = (said version l ≡ Ok s) × AreSaid version ls ss
AreSaid version _ _ = ⊥

-- the words of a text's lines
abbrev pub HasWords : List ℕ → List Words → Type 0
HasWords text ls = (on_text (lines_of text) >>= λ lines. Ok (words_of_lines text lines)) ≡ Ok ls

-- statements are what the lines of a text say, behind a pragma that names the version
pub record AreSaidIn (text : List ℕ) (version : Version) (ss : List Statement) : Type 0 where
  pub pragma : Words
  pub lines : List Words
  pub words : HasWords text (pragma ∷ lines)
  pub names : pragma_version pragma ≡ Ok version
  pub are_said : AreSaid version lines ss

-- ---- rules

abbrev pub Defines : List Statement → Word → Type 0
Defines ss label = (s : Statement) × Contains ss s × (s.label ≡ Some label)

abbrev pub NamesUint : List Statement → ℕ → Type 0
NamesUint ss n = (s : Statement) × Contains ss s × (s.command ≡ Some (Int n))

abbrev pub NamesString : List Statement → List ℕ → Type 0
NamesString ss bytes = (s : Statement) × Contains ss s × (s.command ≡ Some (Byte bytes))

abbrev pub HasUintBlock : List Statement → Type 0
HasUintBlock ss = (s : Statement) × (o : Opcode) × (ns : List ℕ) × Contains ss s × (s.command ≡ Some (Plain o (is.UintBlock ns)))

abbrev pub HasStringBlock : List Statement → Type 0
HasStringBlock ss = (s : Statement) × (o : Opcode) × (all : List (List ℕ)) × Contains ss s × (s.command ≡ Some (Plain o (is.ByteBlock all)))

-- no explicit block stands beside constants of its kind
pub record KeepsBlocksApart (ss : List Statement) : Type 0 where
  pub uints : HasUintBlock ss → (n : ℕ) → NamesUint ss n → ⊥
  pub strings : HasStringBlock ss → (bytes : List ℕ) → NamesString ss bytes → ⊥

-- at most 256 different constants of a kind are named
pub record NamesFew (ss : List Statement) : Type 0 where
  pub uints : (ns : List ℕ) → IsDistinct nat_eq ns → ((n : ℕ) → Contains ns n → NamesUint ss n) → length ns ≤ 256
  pub strings : (all : List (List ℕ)) → IsDistinct bytes_eq all → ((bytes : List ℕ) → Contains all bytes → NamesString ss bytes) → length all ≤ 256

-- each label is defined once
abbrev pub DefinesOnce : List Statement → Type 0
DefinesOnce ss = (above : List Statement) (s : Statement) (below : List Statement) (label : Word) → ss ≡ above ++ s ∷ below → s.label ≡ Some label → Defines above label → ⊥

-- the label of each branch of statements is defined behind it, in them or in those below them
abbrev pub LeadForward : List Statement → List Statement → Type 0
LeadForward ss more = (above : List Statement) (s : Statement) (below : List Statement) (o : Opcode) (label : Word) → ss ≡ above ++ s ∷ below → s.command ≡ Some (Jump o label) → Defines (below ++ more) label

-- the rules that are kept line by line
pub record KeepLineRules (ss : List Statement) : Type 0 where
  pub labels : DefinesOnce ss
  pub blocks : KeepsBlocksApart ss
  pub few : NamesFew ss

-- all rules of the statements of a text
pub record FitTogether (ss : List Statement) : Type 0 where
  pub lines : KeepLineRules ss
  pub branches : LeadForward ss []

-- ---- faults

-- the line begins with a label that no statement above defines
abbrev pub HasNewLabel : List Statement → Words → Type 0
HasNewLabel above l = (label : Word) → label_name l.first ≡ Some label → Defines above label → ⊥

-- what is wrong first in a line below statements: its label, then what it says by itself, then its constant or block
pub data IsWrong (version : Version) (above : List Statement) (l : Words) : AsmFaultKind → Type 0 where
  twice : (label : Word) → label_name l.first ≡ Some label → Defines above label → IsWrong version above l kind.LabelTwice
  unread : (k : AsmFaultKind) → HasNewLabel above l → said version l ≡ Err k → IsWrong version above l k
  mixed : (s : Statement) → HasNewLabel above l → said version l ≡ Ok s → (KeepsBlocksApart (above ++ s ∷ []) → ⊥) → IsWrong version above l kind.MixedBlock
  too_many : (s : Statement) → HasNewLabel above l → said version l ≡ Ok s → KeepsBlocksApart (above ++ s ∷ []) → (NamesFew (above ++ s ∷ []) → ⊥) → IsWrong version above l kind.TooManyConstants

-- the least of lines in which something is wrong
pub record IsLineFault (version : Version) (lines : List Words) (f : AsmFault) : Type 0 where
  pub above : List Words
  pub here : Words
  pub below : List Words
  pub lines_are : lines ≡ above ++ here ∷ below
  pub statements : List Statement
  pub are_said : AreSaid version above statements
  pub keep : KeepLineRules statements
  pub line_is : f.line ≡ here.line
  pub wrong : IsWrong version statements here f.kind

-- what is wrong with the label of a branch, with the statements up to the branch and those below it
pub data LeadsWrong (above below : List Statement) (label : Word) : AsmFaultKind → Type 0 where
  back : Defines above label → LeadsWrong above below label kind.LabelBehind
  nowhere : (Defines above label → ⊥) → (Defines below label → ⊥) → LeadsWrong above below label kind.LabelMissing

-- the first branch of statements that doesn't lead forward
pub record IsBranchFault (ss : List Statement) (f : AsmFault) : Type 0 where
  pub above : List Statement
  pub here : Statement
  pub below : List Statement
  pub statements_are : ss ≡ above ++ here ∷ below
  pub forward : LeadForward above (here ∷ below)
  pub opcode : Opcode
  pub label : Word
  pub command_is : here.command ≡ Some (Jump opcode label)
  pub line_is : f.line ≡ here.line
  pub wrong : LeadsWrong (above ++ here ∷ []) below label f.kind

-- The first fault of a text, of the first of these that has one: the tokens of all lines, the pragma, the lines behind it,
-- one by one, and their branches, one by one.
pub data IsFirstFault (text : List ℕ) (f : AsmFault) : Type 0 where
  of_tokens : on_text (lines_of text) ≡ Err f → IsFirstFault text f
  of_none : HasWords text [] → f ≡ record { line = 1; kind = kind.NoPragma } → IsFirstFault text f
  of_pragma : (pragma : Words) (lines : List Words) → HasWords text (pragma ∷ lines) → pragma_version pragma ≡ Err f → IsFirstFault text f
  of_line : (pragma : Words) (lines : List Words) (version : Version) → HasWords text (pragma ∷ lines) → pragma_version pragma ≡ Ok version → IsLineFault version lines f → IsFirstFault text f
  of_branch : (version : Version) (ss : List Statement) → AreSaidIn text version ss → KeepLineRules ss → IsBranchFault ss f → IsFirstFault text f
