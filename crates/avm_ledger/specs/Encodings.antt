-- The bytes of values, states, schemas, ledgers and headers: one encoding each. Numbers are big-endian.
use Rattle.std.specs.Prelude.{ℕ, List, ◌∷◌, ◌++◌, length}
use Rattle.std.specs.List.{flat_map}
use Rattle.std.specs.Int.{to_be_bytes, w8, w16, w32, w64}
use Rattle.sha2.specs.Sha256.{sha256}
use Rattle.teal_value.specs.declared.address.Address.{Address}
use Rattle.teal_value.specs.declared.value.Value.{Value}
use Rattle.teal_value.specs.declared.value.Value.TheVariants.{Uint, Bytes}
use Rattle.avm_ledger.specs.declared.header.Header.{Header}
use Rattle.avm_states.specs.declared.schema.Schema.{Schema}
use Rattle.avm_states.specs.Entries.{Entries}
use Rattle.avm_ledger.specs.declared.application.Application.{Application}
use Rattle.avm_ledger.specs.declared.application.StoredApplication.{StoredApplication}
use Rattle.avm_ledger.specs.Ledgers.{Ledger}

abbrev pub u8_bytes : ℕ → List ℕ
u8_bytes n = to_be_bytes w8 n

abbrev pub u16_bytes : ℕ → List ℕ
u16_bytes n = to_be_bytes w16 n

abbrev pub u32_bytes : ℕ → List ℕ
u32_bytes n = to_be_bytes w32 n

abbrev pub u64_bytes : ℕ → List ℕ
u64_bytes n = to_be_bytes w64 n

-- a byte string behind its length, of one byte or of two
abbrev pub short_string_bytes : List ℕ → List ℕ
short_string_bytes s = u8_bytes (length s) ++ s

abbrev pub string_bytes : List ℕ → List ℕ
string_bytes s = u16_bytes (length s) ++ s

-- a count, and each in turn
abbrev pub counted_bytes : {A : Type 0} → (ℕ → List ℕ) → (A → List ℕ) → List A → List ℕ
counted_bytes count encoding xs = count (length xs) ++ flat_map encoding xs

abbrev pub value_bytes : Value → List ℕ
value_bytes (Uint n) = 1 ∷ u64_bytes n
value_bytes (Bytes s) = 2 ∷ short_string_bytes s

abbrev pub entry_bytes : List ℕ × Value → List ℕ
entry_bytes e = short_string_bytes e.0 ++ value_bytes e.1

abbrev pub state_bytes : Entries → List ℕ
state_bytes state = counted_bytes u8_bytes entry_bytes state

abbrev pub schema_bytes : Schema → List ℕ
schema_bytes s = u8_bytes s.uints ++ u8_bytes s.bytes

-- an application without its global state
abbrev pub row_bytes : Application → List ℕ
row_bytes row = row.creator.0 ++ string_bytes row.approval ++ string_bytes row.clear ++ schema_bytes row.global_schema ++ schema_bytes row.local_schema

abbrev pub application_bytes : ℕ × StoredApplication → List ℕ
application_bytes (id, app) = u64_bytes id ++ row_bytes app.row ++ state_bytes app.state

abbrev pub local_state_bytes : (Address × ℕ) × Entries → List ℕ
local_state_bytes e = e.0.0.0 ++ u64_bytes e.0.1 ++ state_bytes e.1

abbrev pub ledger_bytes : Ledger → List ℕ
ledger_bytes l = u64_bytes l.next_id ++ counted_bytes u32_bytes application_bytes l.applications ++ counted_bytes u32_bytes local_state_bytes l.local_states

-- the digest of a ledger
abbrev pub ledger_digest : Ledger → List ℕ
ledger_digest l = sha256 (ledger_bytes l)

-- the numbers of a header; its profile stands in the block's format
abbrev pub header_bytes : Header → List ℕ
header_bytes h = u64_bytes h.round ++ u64_bytes h.latest_timestamp ++ u64_bytes h.min_fee ++ u64_bytes h.min_balance ++ u64_bytes h.max_life
