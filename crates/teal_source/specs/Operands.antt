-- The operands of a line: numbers, named constants, byte literals, addresses and fields. A word is a token's text; the
-- text of a string begins with its quotation mark, so that no name, number or label is one.
use Rattle.std.specs.Prelude.{ℕ, if◌then◌else◌, nat_le, List, [], ◌∷◌, codes, Option, Some, None, Result, Ok, Err}
use Rattle.std.specs.Map.{lookup}
use Rattle.std.specs.Option.{ok_or, option_map}
use Rattle.std.specs.Result.{result_ok}
use Rattle.std.specs.Str.{bytes_eq}
use Rattle.teal_value.specs.Answer.{◌>>=◌}
use Rattle.teal_value.specs.declared.address.Address.{Address}
use Rattle.teal_value.specs.AddressText.{address_of}
use Rattle.teal_table.specs.declared.shape.Version.{Version}
use Rattle.teal_table.specs.declared.txn_fields.TxnField.{TxnField}
use Rattle.teal_table.specs.declared.global_fields.GlobalField.{GlobalField}
use Rattle.teal_table.specs.Table.{has}
use Rattle.teal_table.specs.Fields.{txn_number, txn_field_named, global_number, global_version, global_field_named}
use Rattle.teal_text.specs.Numbers.{number_of}
use Rattle.teal_text.specs.Literals.{names_encoding, literal_bytes}
use Rattle.teal_source.specs.declared.fault.AsmFaultKind.{AsmFaultKind}
use Rattle.teal_source.specs.declared.fault.AsmFaultKind.TheVariants.{UnknownName, BadNumber, BadBytes}

abbrev pub Word : Type 0
Word = List ℕ

-- ---- numbers

-- a number that is not above most
abbrev pub number_up_to : ℕ → Word → Result ℕ AsmFaultKind
number_up_to most w = ok_or (number_of w) BadNumber >>= λ n. if nat_le n most then Ok n else Err BadNumber

abbrev pub byte_number : Word → Result ℕ AsmFaultKind
byte_number w = number_up_to 255 w

abbrev pub any_number : Word → Result ℕ AsmFaultKind
any_number w = ok_or (number_of w) BadNumber

-- the names of completions and of transaction types, which `int` takes as numbers
abbrev pub named_constants : List (Word × ℕ)
named_constants =
    (codes "NoOp", 0) ∷ (codes "OptIn", 1) ∷ (codes "CloseOut", 2) ∷ (codes "ClearState", 3) ∷ (codes "UpdateApplication", 4) ∷ (codes "DeleteApplication", 5)
    ∷ (codes "pay", 1) ∷ (codes "keyreg", 2) ∷ (codes "acfg", 3) ∷ (codes "axfer", 4) ∷ (codes "afrz", 5) ∷ (codes "appl", 6) ∷ []

unfoldable pub named_constant : Word → Option ℕ
named_constant w = lookup (λ name. bytes_eq name w) named_constants

abbrev pub or_number : Option ℕ → Word → Result ℕ AsmFaultKind
or_number (Some n) w = Ok n
or_number None w = any_number w

abbrev pub int_value : Word → Result ℕ AsmFaultKind
int_value w = or_number (named_constant w) w

-- ---- byte literals and addresses

-- a literal, and the text behind it where it names an encoding
abbrev pub Literal : Type 0
Literal = Word × Option Word

-- the literals of a line's words
abbrev pub literals_in : List Word → List Literal
literals_in [] = []
literals_in (w ∷ []) = (w, None) ∷ []
literals_in (w ∷ t ∷ ws) = if names_encoding w then (w, Some t) ∷ literals_in ws else (w, None) ∷ literals_in (t ∷ ws)

abbrev pub literal_value : Literal → Result (List ℕ) AsmFaultKind
literal_value l = ok_or (literal_bytes l.0 l.1) BadBytes

abbrev pub address_value : Literal → Result (List ℕ) AsmFaultKind
address_value (w, None) = ok_or (option_map (λ (a : Address). a.0) (result_ok (address_of w))) BadBytes
address_value (w, Some t) = Err BadBytes

-- ---- fields

abbrev pub txn_field_number : Option TxnField → Result ℕ AsmFaultKind
txn_field_number None = Err UnknownName
txn_field_number (Some f) = Ok (txn_number f)

abbrev pub txn_field_value : Word → Result ℕ AsmFaultKind
txn_field_value w = txn_field_number (txn_field_named w)

abbrev pub global_field_number : Version → Option GlobalField → Result ℕ AsmFaultKind
global_field_number version None = Err UnknownName
global_field_number version (Some f) = if has version (global_version f) then Ok (global_number f) else Err UnknownName

abbrev pub global_field_value : Version → Word → Result ℕ AsmFaultKind
global_field_value version w = global_field_number version (global_field_named w)
