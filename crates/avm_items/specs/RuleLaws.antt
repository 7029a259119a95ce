-- What may be put into a ledger that keeps the rules, so that it keeps them.
use Rattle.std.specs.Prelude.{◌≡◌, ℕ, ◌^◌, ◌<◌, ◌≤◌, true, List, [], ◌∷◌, length, All, Some}
use Rattle.teal_value.specs.declared.value.Value.{Value}
use Rattle.teal_value.specs.Keys.{most_key_bytes}
use Rattle.avm_ledger.specs.declared.application.Application.{Application}
use Rattle.avm_states.specs.Entries.{value_of_key}
use Rattle.avm_ledger.specs.declared.application.StoredApplication.{StoredApplication}
use Rattle.avm_ledger.specs.Ledgers.{Ledger, application_at, with_row, empty_ledger}
use Rattle.avm_states.specs.Schemas.{counts_in, counts_after, is_within}
use Rattle.avm_ledger.specs.LedgerReader.{local_room, room_of_schema}
use Rattle.avm_ledger.specs.LedgerRules.{IsStateValue, IsStateIn, IsApplicationBelow, KeepsRules}
use Rattle.avm_items.specs.declared.item.Item.{Item}
use Rattle.avm_items.specs.declared.item.Item.TheVariants as item
use Rattle.avm_items.specs.declared.item_value.ItemValue.{ItemValue}
use Rattle.avm_items.specs.declared.item_value.ItemValue.TheVariants as value
use Rattle.avm_items.specs.Items.{ItemMap}
use Rattle.avm_items.specs.LedgerItems.{put_one, put}

-- a row that keeps the rules beside the states that stand: its own global state, and the local states of its id
pub record IsRowFor (l : Ledger) (id : ℕ) (row : Application) : Type 0 where
  pub application : IsApplicationBelow l.next_id (id, with_row (application_at l id) row)
  pub local_states : All (λ e. e.0.1 ≡ id → IsStateIn (room_of_schema row.local_schema) e.1) l.local_states

-- a key's value that there is room for under the schema of its application, if this stands
pub record IsEntryFor (l : Ledger) (id : ℕ) (key : List ℕ) (v : Value) : Type 0 where
  pub key_length : length key ≤ most_key_bytes
  pub value : IsStateValue v
  pub room : (app : StoredApplication) → application_at l id ≡ Some app
      → is_within (counts_after (value_of_key app.state key) (Some v) (counts_in app.state)) app.row.global_schema ≡ true

-- The next id doesn't fall. Whatever is taken away leaves the rules.
abbrev pub MayKeep : Ledger → Item → ItemValue → Type 0
MayKeep l item.NextApp (value.NextApp id) = (l.next_id ≤ id) × (id < 2 ^ 64)
MayKeep l (item.App id) (value.App row) = IsRowFor l id row
MayKeep l (item.Key id key) (value.Key v) = IsEntryFor l id key v
MayKeep l (item.Local who id) (value.Local state) =
    (length who.0 ≡ 32) × (1 ≤ id) × (id < l.next_id) × IsStateIn (local_room (application_at l id)) state
MayKeep l _ _ = Unit {0}

abbrev pub MayKeepAll : Ledger → ItemMap → Type 0
MayKeepAll l [] = Unit {0}
MayKeepAll l (e ∷ es) = MayKeep l e.0 e.1 × MayKeepAll (put_one l e.0 e.1) es

abbrev pub RulesStay : Type 0
RulesStay = (l : Ledger) (x : Item) (v : ItemValue) → KeepsRules l → MayKeep l x v → KeepsRules (put_one l x v)

abbrev pub RulesStayAfterAll : Type 0
RulesStayAfterAll = (l : Ledger) (items : ItemMap) → KeepsRules l → MayKeepAll l items → KeepsRules (put l items)

-- The ledger without applications keeps the rules.
abbrev pub EmptyKeepsRules : Type 0
EmptyKeepsRules = KeepsRules empty_ledger
