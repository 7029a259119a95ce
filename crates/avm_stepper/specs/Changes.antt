-- The parts of what a view shows as changed, as the definition of views has them (avm_call, specs/Views.antt).
use Rattle.std.specs.Prelude.{ℕ, ◌==◌, Bool, true, false, if◌then◌else◌, List, [], ◌∷◌, ◌++◌, map, Option, Some, None}
use Rattle.std.specs.BTreeMap.{insert_entry}
use Rattle.teal_value.specs.declared.address.Address.{Address}
use Rattle.teal_value.specs.declared.value.Value.{Value}
use Rattle.teal_value.specs.SameValues.{is_same}
use Rattle.avm_ledger.specs.declared.application.StoredApplication.{StoredApplication}
use Rattle.avm_states.specs.Entries.{Entries, byte_cmp, value_of_key}
use Rattle.avm_ledger.specs.Ledgers.{Ledger, local_state_at}
use Rattle.avm_call.specs.Views.{state_changes}
use Rattle.avm_call.specs.Views as views
use Rattle.avm_stepper.specs.declared.view.KeyChange.{KeyChange}
use Rattle.avm_stepper.specs.declared.view.LocalChange.{LocalChange}

-- ---- changes as the definition has them

abbrev pub change_seen : KeyChange → views.KeyChange
change_seen c = record { key = c.key; now = c.now }

abbrev pub changes_seen : List KeyChange → List views.KeyChange
changes_seen = map change_seen

abbrev pub local_change_seen : LocalChange → views.LocalChange
local_change_seen c = record { account = c.account; key = c.key; now = c.now }

abbrev pub local_seen : List LocalChange → List views.LocalChange
local_seen = map local_change_seen

-- ---- one state

abbrev are_same : Option Value → Option Value → Bool
are_same None None = true
are_same (Some v) (Some w) = is_same v w
are_same _ _ = false

-- a key has the same value in both, or none in both
abbrev pub is_same_option : Entries → Entries → List ℕ → Bool
is_same_option before after key = are_same (value_of_key before key) (value_of_key after key)

abbrev pub change_of_key : Entries → Entries → List ℕ → List views.KeyChange
change_of_key before after key = if is_same_option before after key then [] else record { key = key; now = value_of_key after key } ∷ []

-- keys gathered in order, each once
abbrev pub gathered : Entries → List (List ℕ × Unit {0}) → List (List ℕ × Unit {0})
gathered [] keys = keys
gathered (e ∷ es) keys = gathered es (insert_entry byte_cmp keys e.0 tt)

abbrev pub changes_along : Entries → Entries → List (List ℕ × Unit {0}) → List views.KeyChange
changes_along before after [] = []
changes_along before after (k ∷ keys) = change_of_key before after k.0 ++ changes_along before after keys

abbrev pub global_entries : Option StoredApplication → Entries
global_entries None = []
global_entries (Some app) = app.state

-- ---- the local states

abbrev local_entries : Option Entries → Entries
local_entries None = []
local_entries (Some state) = state

abbrev pub of_account : Address → List views.KeyChange → List views.LocalChange
of_account who [] = []
of_account who (c ∷ cs) = record { account = who; key = c.key; now = c.now } ∷ of_account who cs

-- what has changed in the local state at a place, if it is the application's
abbrev pub account_changes : Ledger → ℕ → (Address × ℕ) × Entries → List views.LocalChange
account_changes before id e = if e.0.1 == id then of_account e.0.0 (state_changes (local_entries (local_state_at before e.0.0 id)) e.1) else []

abbrev pub local_changes_along : Ledger → ℕ → List ((Address × ℕ) × Entries) → List views.LocalChange
local_changes_along before id [] = []
local_changes_along before id (e ∷ es) = account_changes before id e ++ local_changes_along before id es
