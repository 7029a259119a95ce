-- Reading a ledger from its bytes: its fields in order, and the first that breaks a rule or that the bytes end in.
use Rattle.std.specs.Prelude.{ℕ, zero, suc, ◌+◌, ◌==◌, ◌&&◌, Bool, true, nat_lt, nat_le, if◌then◌else◌, List, [], ◌∷◌, length, Option, Some, None, Result, Ok, Err}
use Rattle.std.specs.Ordering.{nat_cmp, is_lt, is_le}
use Rattle.std.specs.Map.{lookup}
use Rattle.std.specs.BTreeMap.{is_at}
use Rattle.std.specs.Int.{w8, w32, w64}
use Rattle.std.specs.Result.{is_ok}
use Rattle.teal_value.specs.Answer.{◌>>=◌}
use Rattle.teal_value.specs.declared.address.Address.{Address}
use Rattle.teal_value.specs.declared.value.Value.{Value}
use Rattle.teal_value.specs.declared.value.Value.TheVariants.{Uint, Bytes}
use Rattle.teal_value.specs.Keys.{most_key_bytes}
use Rattle.teal_check.specs.WellFormed.{checked}
use Rattle.avm_ledger.specs.declared.ledger_fault.LedgerFault.{LedgerFault}
use Rattle.avm_ledger.specs.declared.ledger_fault.LedgerFault.TheVariants.{Malformed, Truncated, Rest}
use Rattle.avm_states.specs.declared.schema.Schema.{Schema}
use Rattle.avm_states.specs.Entries.{Entries, byte_cmp, most_value_bytes}
use Rattle.avm_ledger.specs.declared.application.Application.{Application}
use Rattle.avm_ledger.specs.declared.application.StoredApplication.{StoredApplication}
use Rattle.avm_ledger.specs.Ledgers.{Ledger, account_cmp}
use Rattle.avm_states.specs.Schemas.{count_without, most_global_entries, most_local_entries}
use Rattle.avm_ledger.specs.FieldReader.{Front, number_at, short_string_at, string_at, address_at, schema_at, alone}

-- a field that keeps a rule
abbrev pub tested : {A : Type 0} → Bool → A × List ℕ → Front LedgerFault A
tested rule x = if rule then Ok x else Err Malformed

-- ---- states

-- how many entries a state may have in all, and how many of each kind
pub record Room : Type 0 where
  pub entries : ℕ
  pub kinds : Schema

abbrev pub room_of_schema : Schema → Room
room_of_schema s = record { entries = s.uints + s.bytes; kinds = s }

-- A local state under the schema of its application; where this is gone, as many entries of any kind as a schema may allow.
abbrev pub local_room : Option StoredApplication → Room
local_room (Some app) = room_of_schema app.row.local_schema
local_room None = record { entries = most_local_entries; kinds = record { uints = most_local_entries; bytes = most_local_entries } }

-- the application of an id
abbrev pub stored_in : List (ℕ × StoredApplication) → ℕ → Option StoredApplication
stored_in apps id = lookup (is_at (nat_cmp id)) apps

-- a key above the one before
abbrev pub rises_from_key : Option (List ℕ) → List ℕ → Bool
rises_from_key None key = true
rises_from_key (Some before) key = is_lt (byte_cmp before key)

abbrev pub key_at : Option (List ℕ) → List ℕ → Front LedgerFault (List ℕ)
key_at before bytes = short_string_at Truncated bytes >>= λ k. tested (nat_le (length k.0) most_key_bytes && rises_from_key before k.0) k

abbrev pub uint_at : List ℕ → Front LedgerFault Value
uint_at bytes = number_at Truncated w64 bytes >>= λ n. Ok (Uint n.0, n.1)

abbrev pub bytes_value_at : List ℕ → Front LedgerFault Value
bytes_value_at bytes = short_string_at Truncated bytes >>= λ s. tested (nat_le (length s.0) most_value_bytes) (Bytes s.0, s.1)

-- a value behind its kind, while there is room for one of the kind
abbrev pub value_of_kind : Schema → ℕ × List ℕ → Front LedgerFault Value
value_of_kind left kind =
    if (kind.0 == 1) && nat_lt 0 left.uints then uint_at kind.1
    else if (kind.0 == 2) && nat_lt 0 left.bytes then bytes_value_at kind.1
    else Err Malformed

abbrev pub value_at : Schema → List ℕ → Front LedgerFault Value
value_at left bytes = number_at Truncated w8 bytes >>= value_of_kind left

-- so many entries, behind a key, with so much room left
abbrev pub entries_at : ℕ → Option (List ℕ) → Schema → List ℕ → Front LedgerFault Entries
entries_at zero before left bytes = Ok ([], bytes)
entries_at (suc n) before left bytes = do
  k ← key_at before bytes
  v ← value_at left k.1
  es ← entries_at n (Some k.0) (count_without v.0 left) v.1
  Ok ((k.0, v.0) ∷ es.0, es.1)

abbrev pub state_of_count : Room → ℕ × List ℕ → Front LedgerFault Entries
state_of_count room n = if nat_le n.0 room.entries then entries_at n.0 None room.kinds n.1 else Err Malformed

abbrev pub state_at : Room → List ℕ → Front LedgerFault Entries
state_at room bytes = number_at Truncated w8 bytes >>= state_of_count room

-- ---- applications

-- a schema of at most so many entries
abbrev pub limited_schema_at : ℕ → List ℕ → Front LedgerFault Schema
limited_schema_at most bytes = schema_at Truncated bytes >>= λ s. tested (nat_le (s.0.uints + s.0.bytes) most) s

-- a program that is checked
abbrev pub program_at : List ℕ → Front LedgerFault (List ℕ)
program_at bytes = string_at Truncated bytes >>= λ p. tested (is_ok (checked p.0)) p

-- the schemas of an application's global state and of its local states
abbrev pub schemas_at : List ℕ → Front LedgerFault (Schema × Schema)
schemas_at bytes = do
  global ← limited_schema_at most_global_entries bytes
  local ← limited_schema_at most_local_entries global.1
  Ok ((global.0, local.0), local.1)

-- an application without its global state
abbrev pub row_at : List ℕ → Front LedgerFault Application
row_at bytes = do
  creator ← address_at Truncated bytes
  approval ← program_at creator.1
  clear ← program_at approval.1
  schemas ← schemas_at clear.1
  Ok (record { creator = creator.0; approval = approval.0; clear = clear.0; global_schema = schemas.0.0; local_schema = schemas.0.1 }, schemas.1)

abbrev pub stored_application_at : List ℕ → Front LedgerFault StoredApplication
stored_application_at bytes = do
  row ← row_at bytes
  state ← state_at (room_of_schema row.0.global_schema) row.1
  Ok (record { row = row.0; state = state.0 }, state.1)

-- an id above the one before and below the next id
abbrev pub id_between : ℕ → ℕ → List ℕ → Front LedgerFault ℕ
id_between before next bytes = number_at Truncated w64 bytes >>= λ id. tested (nat_lt before id.0 && nat_lt id.0 next) id

-- so many applications, behind an id and below the next id
abbrev pub applications_at : ℕ → ℕ → ℕ → List ℕ → Front LedgerFault (List (ℕ × StoredApplication))
applications_at zero before next bytes = Ok ([], bytes)
applications_at (suc n) before next bytes = do
  id ← id_between before next bytes
  app ← stored_application_at id.1
  apps ← applications_at n id.0 next app.1
  Ok ((id.0, app.0) ∷ apps.0, apps.1)

-- ---- local states

-- an account that is not below the one before, and an account and an id above those before
abbrev pub is_no_lower : Option (Address × ℕ) → Address → Bool
is_no_lower None who = true
is_no_lower (Some before) who = is_le (byte_cmp before.0.0 who.0)

abbrev pub rises_from_pair : Option (Address × ℕ) → Address × ℕ → Bool
rises_from_pair None x = true
rises_from_pair (Some before) x = is_lt (account_cmp before x)

abbrev pub account_at : Option (Address × ℕ) → List ℕ → Front LedgerFault Address
account_at before bytes = address_at Truncated bytes >>= λ who. tested (is_no_lower before who.0) who

abbrev pub local_id_at : Option (Address × ℕ) → ℕ → Address → List ℕ → Front LedgerFault ℕ
local_id_at before next who bytes = id_between 0 next bytes >>= λ id. tested (rises_from_pair before (who, id.0)) id

-- so many local states, behind an account and an id
abbrev pub local_states_at : ℕ → Option (Address × ℕ) → ℕ → List (ℕ × StoredApplication) → List ℕ → Front LedgerFault (List ((Address × ℕ) × Entries))
local_states_at zero before next apps bytes = Ok ([], bytes)
local_states_at (suc n) before next apps bytes = do
  who ← account_at before bytes
  id ← local_id_at before next who.0 who.1
  state ← state_at (local_room (stored_in apps id.0)) id.1
  more ← local_states_at n (Some (who.0, id.0)) next apps state.1
  Ok (((who.0, id.0), state.0) ∷ more.0, more.1)

-- ---- ledgers

abbrev pub next_id_at : List ℕ → Front LedgerFault ℕ
next_id_at bytes = number_at Truncated w64 bytes >>= λ n. tested (nat_le 1 n.0) n

-- the ledger that the bytes begin with
abbrev pub ledger_front : List ℕ → Front LedgerFault Ledger
ledger_front bytes = do
  next ← next_id_at bytes
  count ← number_at Truncated w32 next.1
  apps ← applications_at count.0 0 next.0 count.1
  states ← number_at Truncated w32 apps.1
  locals ← local_states_at states.0 None next.0 apps.0 states.1
  Ok (record { next_id = next.0; applications = apps.0; local_states = locals.0 }, locals.1)

-- the ledger that the bytes are
abbrev pub ledger_at : List ℕ → Result Ledger LedgerFault
ledger_at bytes = ledger_front bytes >>= alone Rest
