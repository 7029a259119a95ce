-- Accounts as JSON: those that have local states, each with all of its own.
use Rattle.std.specs.Prelude.{ℕ, List, [], ◌∷◌, codes}
use Rattle.json.specs.Json.{Json}
use Rattle.teal_value.specs.declared.address.Address.{Address}
use Rattle.avm_states.specs.Entries.{Entries}
use Rattle.json_views.specs.Documents.{object_of, uint}
use Rattle.json_views.specs.States.{shown_state}

-- the member of an account that has its local states
abbrev pub locals_name : List ℕ
locals_name = codes "apps-local-state"

-- the account of a local state of a ledger, and the rest: the id of its application, and its entries
abbrev pub local_of : (Address × ℕ) × Entries → Address × (ℕ × Entries)
local_of e = (e.0.0, (e.0.1, e.1))

abbrev pub shown_local : ℕ × Entries → Json
shown_local local = object_of ((codes "id", uint local.0) ∷ (codes "key-value", shown_state local.1) ∷ [])
