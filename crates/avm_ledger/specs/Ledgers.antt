-- Ledgers: applications by rising id, local states by rising account and application, and the next id.
use Rattle.std.specs.Prelude.{◌≡◌, ◌≤◌, ℕ, ◌+◌, ◌-◌, ◌^◌, ◌==◌, if◌then◌else◌, List, [], Option, Some, None, option_and_then, Result, Ok, Err}
use Rattle.std.specs.Ordering.{nat_cmp, ordering_then}
use Rattle.std.specs.declared.cmp.Ordering.{Ordering}
use Rattle.std.specs.Map.{lookup, remove_entry, keys_of}
use Rattle.std.specs.List.Sorted.{IsStrictlySortedBy}
use Rattle.std.specs.BTreeMap.{insert_entry, is_at}
use Rattle.teal_value.specs.declared.address.Address.{Address}
use Rattle.teal_value.specs.declared.value.Value.{Value}
use Rattle.avm_ledger.specs.declared.application.Application.{Application}
use Rattle.avm_ledger.specs.declared.application.StoredApplication.{StoredApplication}
use Rattle.avm_ledger.specs.declared.ids_end.IdsEnd.{IdsEnd}
use Rattle.avm_ledger.specs.declared.ids_end.IdsEnd.TheVariants as ids
use Rattle.avm_states.specs.Entries.{Entries, byte_cmp, value_of_key, IsInKeyOrder}

pub record Ledger : Type 0 where
  pub next_id : ℕ
  pub applications : List (ℕ × StoredApplication)
  pub local_states : List ((Address × ℕ) × Entries)

abbrev pub empty_ledger : Ledger
empty_ledger = record { next_id = 1; applications = []; local_states = [] }

-- accounts in order, and then applications
abbrev pub account_cmp : Address × ℕ → Address × ℕ → Ordering
account_cmp x y = ordering_then (byte_cmp x.0.0 y.0.0) (nat_cmp x.1 y.1)

abbrev pub application_at : Ledger → ℕ → Option StoredApplication
application_at l id = lookup (is_at (nat_cmp id)) l.applications

abbrev pub with_application : Ledger → ℕ → StoredApplication → Ledger
with_application l id app = record l { applications = insert_entry nat_cmp l.applications id app }

abbrev pub without_application : Ledger → ℕ → Ledger
without_application l id = record l { applications = remove_entry (is_at (nat_cmp id)) l.applications }

-- the value of a key of an application's global state
abbrev pub global_value : Ledger → ℕ → List ℕ → Option Value
global_value l id key = option_and_then (λ app. value_of_key app.state key) (application_at l id)

-- a new application has no entries; one that stands keeps its own
abbrev pub with_row : Option StoredApplication → Application → StoredApplication
with_row None row = record { row = row; state = [] }
with_row (Some app) row = record app { row = row }

-- the ledger with a change of the global state of an application that stands
abbrev pub with_state : Ledger → ℕ → (Entries → Entries) → Option StoredApplication → Ledger
with_state l id change None = l
with_state l id change (Some app) = with_application l id (record app { state = change app.state })

-- A creation takes the next id, and the last number is no id.
abbrev pub creation : Ledger → Application → Result (ℕ × Ledger) IdsEnd
creation l row =
    if l.next_id == 2 ^ 64 - 1 then Err ids.IdsEnd
    else Ok (l.next_id, record (with_application l l.next_id (record { row = row; state = [] })) { next_id = l.next_id + 1 })

abbrev pub local_state_at : Ledger → Address → ℕ → Option Entries
local_state_at l who id = lookup (is_at (account_cmp (who, id))) l.local_states

abbrev pub with_local_state : Ledger → Address → ℕ → Entries → Ledger
with_local_state l who id state = record l { local_states = insert_entry account_cmp l.local_states (who, id) state }

abbrev pub without_local_state : Ledger → Address → ℕ → Ledger
without_local_state l who id = record l { local_states = remove_entry (is_at (account_cmp (who, id))) l.local_states }

-- The maps of a ledger are in order: ids rise, accounts with applications rise, and so do the keys of each global state.
pub record IsInOrder (l : Ledger) : Type 0 where
  pub applications : IsStrictlySortedBy nat_cmp (keys_of l.applications)
  pub global_states : (id : ℕ) (app : StoredApplication) → application_at l id ≡ Some app → IsInKeyOrder app.state
  pub local_states : IsStrictlySortedBy account_cmp (keys_of l.local_states)

-- Its maps are in order, and no application has an id that no creation took. Every ledger keeps that.
pub record IsOrderly (l : Ledger) : Type 0 where
  pub order : IsInOrder l
  pub below : (id : ℕ) → l.next_id ≤ id → application_at l id ≡ None
