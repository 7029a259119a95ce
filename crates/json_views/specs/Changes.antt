-- What a call's program has changed, as JSON.
use Rattle.std.specs.Prelude.{ℕ, List, [], ◌∷◌, map, Option, Some, None, codes}
use Rattle.json.specs.Json.{Json}
use Rattle.teal_value.specs.declared.address.Address.{Address}
use Rattle.teal_value.specs.declared.value.Value.{Value}
use Rattle.teal_value.specs.declared.value.Value.TheVariants.{Uint, Bytes}
use Rattle.avm_call.specs.Views.{KeyChange, LocalChange}
use Rattle.json_views.specs.ByAccount.{shown_by_account}
use Rattle.json_views.specs.Documents.{array_of, base64, object_of, uint}

-- action 1 sets a byte string, 2 sets a uint, 3 deletes the key
abbrev pub shown_delta : Option Value → Json
shown_delta (Some (Bytes s)) = object_of ((codes "action", uint 1) ∷ (codes "bytes", base64 s) ∷ [])
shown_delta (Some (Uint n)) = object_of ((codes "action", uint 2) ∷ (codes "uint", uint n) ∷ [])
shown_delta None = object_of ((codes "action", uint 3) ∷ [])

abbrev pub shown_change : KeyChange → Json
shown_change c = object_of ((codes "key", base64 c.key) ∷ (codes "value", shown_delta c.now) ∷ [])

abbrev pub shown_global_delta : List KeyChange → Json
shown_global_delta changes = array_of shown_change changes

-- the member of an account that has its changes
abbrev pub delta_name : List ℕ
delta_name = codes "delta"

-- the account of a change of a local state, and the change of the key
abbrev pub account_change : LocalChange → Address × KeyChange
account_change c = (c.account, record { key = c.key; now = c.now })

abbrev pub shown_local_deltas : List LocalChange → Json
shown_local_deltas changes = shown_by_account delta_name shown_change (map account_change changes)
