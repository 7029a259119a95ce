-- The rules that a ledger keeps.
use Rattle.std.specs.Prelude.{◌≡◌, ℕ, ◌+◌, ◌^◌, ◌<◌, ◌≤◌, true, List, length, All, is_ok}
use Rattle.std.specs.Ordering.{nat_cmp}
use Rattle.std.specs.Map.{keys_of}
use Rattle.std.specs.List.Sorted.{IsStrictlySortedBy}
use Rattle.teal_value.specs.declared.address.Address.{Address}
use Rattle.teal_value.specs.declared.value.Value.{Value}
use Rattle.teal_value.specs.declared.value.Value.TheVariants.{Uint, Bytes}
use Rattle.teal_value.specs.Keys.{most_key_bytes}
use Rattle.teal_check.specs.WellFormed.{checked}
use Rattle.avm_states.specs.Entries.{Entries, IsInKeyOrder, most_value_bytes}
use Rattle.avm_ledger.specs.declared.application.Application.{Application}
use Rattle.avm_ledger.specs.declared.application.StoredApplication.{StoredApplication}
use Rattle.avm_ledger.specs.Ledgers.{Ledger, account_cmp}
use Rattle.avm_states.specs.Schemas.{counts_in, most_global_entries, most_local_entries}
use Rattle.avm_ledger.specs.LedgerReader.{Room, room_of_schema, local_room, stored_in}

-- a value that may stand in a state
abbrev pub IsStateValue : Value → Type 0
IsStateValue (Uint n) = n < 2 ^ 64
IsStateValue (Bytes s) = length s ≤ most_value_bytes

abbrev pub IsStateEntry : List ℕ × Value → Type 0
IsStateEntry e = (length e.0 ≤ most_key_bytes) × IsStateValue e.1

-- a state that there is room for
pub record IsStateIn (room : Room) (state : Entries) : Type 0 where
  pub rising : IsInKeyOrder state
  pub entries : All IsStateEntry state
  pub few : length state ≤ room.entries
  pub uints : (counts_in state).uints ≤ room.kinds.uints
  pub strings : (counts_in state).bytes ≤ room.kinds.bytes

-- programs that are checked, and schemas within their limits
pub record IsRow (row : Application) : Type 0 where
  pub creator : length row.creator.0 ≡ 32
  pub approval : is_ok (checked row.approval) ≡ true
  pub clear : is_ok (checked row.clear) ≡ true
  pub global_schema : row.global_schema.uints + row.global_schema.bytes ≤ most_global_entries
  pub local_schema : row.local_schema.uints + row.local_schema.bytes ≤ most_local_entries

-- an application with its id, below the next id
pub record IsApplicationBelow (next : ℕ) (e : ℕ × StoredApplication) : Type 0 where
  pub positive : 1 ≤ e.0
  pub below : e.0 < next
  pub row : IsRow e.1.row
  pub state : IsStateIn (room_of_schema e.1.row.global_schema) e.1.state

-- a local state with its account and id, beside these applications
pub record IsLocalStateBelow (next : ℕ) (apps : List (ℕ × StoredApplication)) (e : (Address × ℕ) × Entries) : Type 0 where
  pub positive : 1 ≤ e.0.1
  pub below : e.0.1 < next
  pub account : length e.0.0.0 ≡ 32
  pub state : IsStateIn (local_room (stored_in apps e.0.1)) e.1

-- Ids rise and are below the next id, accounts with applications rise; programs are checked, schemas within their limits,
-- and states within their schemas.
pub record KeepsRules (l : Ledger) : Type 0 where
  pub next_id : 1 ≤ l.next_id
  pub small : l.next_id < 2 ^ 64
  pub rising_ids : IsStrictlySortedBy nat_cmp (keys_of l.applications)
  pub applications : All (IsApplicationBelow l.next_id) l.applications
  pub rising_accounts : IsStrictlySortedBy account_cmp (keys_of l.local_states)
  pub local_states : All (IsLocalStateBelow l.next_id l.applications) l.local_states

-- so few applications and local states that four bytes count them
pub record IsCountable (l : Ledger) : Type 0 where
  pub applications : length l.applications < 2 ^ 32
  pub local_states : length l.local_states < 2 ^ 32
