-- What a text means, said of each command by itself. `teal_asm/specs/Meaning` says it as the assembler works, statement
-- after statement; here nothing is computed.
use Rattle.std.specs.Prelude.{◌≡◌, ◌↔◌, ℕ, ◌+◌, ◌<◌, nat_eq, Bool, List, [], ◌∷◌, ◌++◌, length, map, slice_get, Contains, Some, Ok}
use Rattle.std.specs.List.{flat_map, position_or_len}
use Rattle.std.specs.List.Sorted.{IsStrictlySortedBy}
use Rattle.std.specs.Option.{option_to_list}
use Rattle.std.specs.Ordering.{nat_cmp}
use Rattle.std.specs.Str.{bytes_eq}
use Rattle.teal_value.specs.Answer.{◌>>=◌}
use Rattle.teal_table.specs.declared.shape.Version.{Version}
use Rattle.teal_source.specs.declared.command.Command.{Command}
use Rattle.teal_source.specs.declared.command.Command.TheVariants.{Int, Byte, Jump, Plain}
use Rattle.teal_source.specs.declared.statement.Statement.{Statement}
use Rattle.teal_source.specs.Operands.{Word}
use Rattle.teal_source.specs.Statements.{Words, gathered_uint, gathered_string, on_text, pragma_version, statements, words_of_lines}
use Rattle.teal_text.specs.Lines.{lines_of}
use Rattle.teal_asm.specs.Meaning.{Meant, Straight, Branch, uint_block_in_front, byte_block_in_front, read_uint_constant, read_byte_constant}

-- the commands of statements, in order
abbrev pub commands_of : List Statement → List Command
commands_of ss = flat_map (λ (s : Statement). option_to_list s.command) ss

-- the values that `int`, and `byte` and `addr`, name, in order, as often as they are named
abbrev pub named_uints : List Statement → List ℕ
named_uints ss = flat_map (λ (s : Statement). gathered_uint s.command) ss

abbrev pub named_strings : List Statement → List (List ℕ)
named_strings ss = flat_map (λ (s : Statement). gathered_string s.command) ss

-- The constants are the values that are named, each once, in the order in which they are first named: how many values are
-- named before the first use of each rises strictly.
pub record AreGathered {A : Type 0} (eq : A → A → Bool) (named constants : List A) : Type 0 where
  pub same : (x : A) → Contains constants x ↔ Contains named x
  pub order : IsStrictlySortedBy nat_cmp (map (λ c. position_or_len (eq c) named) constants)

-- A label stands before the instruction with this number, where the first command of the statements has that one: it is a
-- statement's, and as many commands as the numbers are apart stand above it.
pub record StandsBefore (first : ℕ) (ss : List Statement) (label : Word) (number : ℕ) : Type 0 where
  pub above : List Statement
  pub labelled : Statement
  pub below : List Statement
  pub text : ss ≡ above ++ labelled ∷ below
  pub label_is : labelled.label ≡ Some label
  pub number_is : number ≡ first + length (commands_of above)

-- The instruction with a number is what a command means. A constant is read by its place among the constants. A branch
-- leads to the instruction that its label stands before, which comes behind it.
abbrev pub IsMeantBy : List ℕ → List (List ℕ) → ℕ → List Statement → ℕ → Command → Meant → Type 0
IsMeantBy uints strings first ss number (Int n) i = (k : ℕ) × (slice_get uints k ≡ Some n) × (i ≡ read_uint_constant k)
IsMeantBy uints strings first ss number (Byte s) i = (k : ℕ) × (slice_get strings k ≡ Some s) × (i ≡ read_byte_constant k)
IsMeantBy uints strings first ss number (Jump opcode label) i = (target : ℕ) × (i ≡ Branch opcode target) × (number < target) × StandsBefore first ss label target
IsMeantBy uints strings first ss number (Plain opcode immediates) i = i ≡ Straight opcode immediates

-- Instructions are what statements mean: in front a block of each kind of constant that is named, and behind the blocks an
-- instruction for each command, in order, which is what that command means.
pub record AreMeantBy (ss : List Statement) (is : List Meant) : Type 0 where
  pub uints : List ℕ
  pub strings : List (List ℕ)
  pub blocks : List Meant
  pub body : List Meant
  pub uints_are : AreGathered nat_eq (named_uints ss) uints
  pub strings_are : AreGathered bytes_eq (named_strings ss) strings
  pub blocks_are : blocks ≡ uint_block_in_front uints ++ byte_block_in_front strings
  pub in_front : is ≡ blocks ++ body
  pub as_many : length body ≡ length (commands_of ss)
  pub each : (k : ℕ) (c : Command) → slice_get (commands_of ss) k ≡ Some c
      → (i : Meant) × (slice_get body k ≡ Some i) × IsMeantBy uints strings (length blocks) ss (length blocks + k) c i

-- the statements of a text are those of the lines behind its pragma, which names the version
pub record AreStatementsOf (text : List ℕ) (version : Version) (ss : List Statement) : Type 0 where
  pub pragma : Words
  pub lines : List Words
  pub words : (on_text (lines_of text) >>= λ ls. Ok (words_of_lines text ls)) ≡ Ok (pragma ∷ lines)
  pub names : pragma_version pragma ≡ Ok version
  pub statements_are : statements version [] lines ≡ Ok ss

-- The instructions of a text's meaning are what its statements mean.
pub record IsWhatItSays (text : List ℕ) (version : Version) (is : List Meant) : Type 0 where
  pub statements : List Statement
  pub of_text : AreStatementsOf text version statements
  pub meant : AreMeantBy statements is
