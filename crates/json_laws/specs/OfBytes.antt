-- That what a document says is of bytes: numbers in byte strings are below 256.
use Rattle.std.specs.Prelude.{◌≡◌, ℕ, List, All, Ok}
use Rattle.teal_value.specs.declared.address.Address.{Address}
use Rattle.teal_value.specs.declared.value.Value.{Value}
use Rattle.teal_value.specs.declared.value.Value.TheVariants.{Uint, Bytes}
use Rattle.avm_states.specs.Entries.{Entries}
use Rattle.avm_ledger.specs.declared.application.StoredApplication.{StoredApplication}
use Rattle.avm_ledger.specs.Ledgers.{Ledger}
use Rattle.avm_rule_laws.specs.Rules.{AreBytes, IsCallOfBytes, IsRowOfBytes}
use Rattle.json.specs.Json.{Json, null, boolean, number, string, array, object, Items, no_items, item, Members, no_members, member}
use Rattle.json_documents.specs.Documents.{Document, document}
use Rattle.json_documents.specs.Reading.{document_of_text}

-- a uint, or a byte string of bytes; how large the uint is, the rules of ledgers say
abbrev pub IsValueOfBytes : Value → Type 0
IsValueOfBytes (Uint n) = Unit {0}
IsValueOfBytes (Bytes s) = AreBytes s

-- a key of bytes, with such a value
abbrev pub IsEntryOfBytes : List ℕ × Value → Type 0
IsEntryOfBytes e = AreBytes e.0 × IsValueOfBytes e.1

-- an application by its id: its creator, its programs and its global state
pub record IsApplicationOfBytes (e : ℕ × StoredApplication) : Type 0 where
  pub row : IsRowOfBytes e.1.row
  pub state : All IsEntryOfBytes e.1.state

-- a local state by account and application
pub record IsLocalStateOfBytes (e : (Address × ℕ) × Entries) : Type 0 where
  pub account : AreBytes e.0.0.0
  pub state : All IsEntryOfBytes e.1

-- The whole ledger: `IsLedgerOfBytes`, of the laws of calls, leaves out keys and the accounts of local states, and says how large
-- uints are. It says the same as `AreBytes (ledger_bytes l)` (the lemmas `ledger_is_bytes`, `ledger_parts`). The laws here use
-- this form, and of calls `IsCallOfBytes`: so what they say of accepted documents is what they ask of what is shown.
pub record IsWholeLedgerOfBytes (l : Ledger) : Type 0 where
  pub applications : All IsApplicationOfBytes l.applications
  pub local_states : All IsLocalStateOfBytes l.local_states

-- what a document says, but for its header, of which no part is a byte string
pub record IsDocumentOfBytes (x : Document) : Type 0 where
  pub ledger : IsWholeLedgerOfBytes x.ledger
  pub calls : All IsCallOfBytes x.calls

-- the strings of a value, at any depth, are of bytes; the names of members are left out
abbrev mutual
  pub HasStringsOfBytes : Json → Type 0
  HasStringsOfBytes null = Unit {0}
  HasStringsOfBytes (boolean b) = Unit {0}
  HasStringsOfBytes (number s) = Unit {0}
  HasStringsOfBytes (string s) = AreBytes s
  HasStringsOfBytes (array js) = ItemsHaveStringsOfBytes js
  HasStringsOfBytes (object ms) = MembersHaveStringsOfBytes ms

  pub ItemsHaveStringsOfBytes : Items → Type 0
  ItemsHaveStringsOfBytes no_items = Unit {0}
  ItemsHaveStringsOfBytes (item j js) = HasStringsOfBytes j × ItemsHaveStringsOfBytes js

  pub MembersHaveStringsOfBytes : Members → Type 0
  MembersHaveStringsOfBytes no_members = Unit {0}
  MembersHaveStringsOfBytes (member k j ms) = HasStringsOfBytes j × MembersHaveStringsOfBytes ms

-- What an accepted document says is of bytes where its strings are;
abbrev pub AcceptedDocumentsAreOfBytes : Type 0
AcceptedDocumentsAreOfBytes = (j : Json) (x : Document) → HasStringsOfBytes j → document j ≡ Ok x → IsDocumentOfBytes x

-- and so where its text is.
abbrev pub AcceptedTextsAreOfBytes : Type 0
AcceptedTextsAreOfBytes = (text : List ℕ) (x : Document) → AreBytes text → document_of_text text ≡ Ok x → IsDocumentOfBytes x
