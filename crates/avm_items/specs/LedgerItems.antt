-- The items of a ledger: the value of each, a ledger with some of them set, and what differs between two ledgers.
use Rattle.std.specs.Prelude.{◌≡◌, ℕ, Bool, false, not, List, [], ◌∷◌, filter, Option, Some, None, is_none, unwrap_or}
use Rattle.avm_states.specs.Entries.{Entries, value_of_key, with_entry, without_entry}
use Rattle.avm_states.specs.Schemas.{counts_in}
use Rattle.avm_ledger.specs.declared.application.StoredApplication.{StoredApplication}
use Rattle.avm_ledger.specs.Ledgers.{Ledger, application_at, with_application, without_application, with_row, with_state, local_state_at, with_local_state, without_local_state}
use Rattle.avm_items.specs.declared.item.Item.{Item}
use Rattle.avm_items.specs.declared.item.Item.TheVariants as item
use Rattle.avm_items.specs.declared.item_value.ItemValue.{ItemValue}
use Rattle.avm_items.specs.declared.item_value.ItemValue.TheVariants as value
use Rattle.avm_items.specs.Items.{ItemMap, Look, Known, value_in, key_value}
use Rattle.avm_items.specs.SameValues.{is_same_value}

-- ---- the value of an item

abbrev pub row_value : Option StoredApplication → ItemValue
row_value None = value.Absent
row_value (Some app) = value.App app.row

abbrev pub counts_value : Option StoredApplication → ItemValue
counts_value None = value.Absent
counts_value (Some app) = value.Counts (counts_in app.state)

abbrev pub entry_value : Option StoredApplication → List ℕ → ItemValue
entry_value None key = value.Absent
entry_value (Some app) key = key_value (value_of_key app.state key)

abbrev pub local_value : Option Entries → ItemValue
local_value None = value.Absent
local_value (Some state) = value.Local state

abbrev pub at : Ledger → Look
at l item.NextApp = value.NextApp l.next_id
at l (item.App id) = row_value (application_at l id)
at l (item.Counts id) = counts_value (application_at l id)
at l (item.Key id key) = entry_value (application_at l id) key
at l (item.Local who id) = local_value (local_state_at l who id)

-- ---- a ledger with items set

-- The ledger with an item set. The counts follow from the keys, a key is set in an application that stands, and an
-- application that goes takes its global state with it. A value of another kind than the item's sets nothing.
abbrev pub put_one : Ledger → Item → ItemValue → Ledger
put_one l item.NextApp (value.NextApp id) = record l { next_id = id }
put_one l (item.App id) (value.App row) = with_application l id (with_row (application_at l id) row)
put_one l (item.App id) value.Absent = without_application l id
put_one l (item.Key id key) (value.Key v) = with_state l id (λ s. with_entry s key v) (application_at l id)
put_one l (item.Key id key) value.Absent = with_state l id (λ s. without_entry s key) (application_at l id)
put_one l (item.Local who id) (value.Local state) = with_local_state l who id state
put_one l (item.Local who id) value.Absent = without_local_state l who id
put_one l _ _ = l

abbrev pub put : Ledger → ItemMap → Ledger
put l [] = l
put l (e ∷ es) = put (put_one l e.0 e.1) es

-- ---- agreement and changes

-- the keys and the counts of an application that is gone
abbrev pub is_of_gone : Ledger → Item → Bool
is_of_gone l (item.Counts id) = is_none (application_at l id)
is_of_gone l (item.Key id key) = is_none (application_at l id)
is_of_gone l _ = false

-- The ledger has what was read. Keys and counts of an application that is gone agree with any value.
abbrev pub AgreesWithReads : Ledger → ItemMap → Type 0
AgreesWithReads l reads = (x : Item) (v : ItemValue) → value_in reads x ≡ Some v → is_of_gone l x ≡ false → at l x ≡ v

-- The items whose values in the second ledger differ from those in the first, with their values there; without the keys
-- and counts of an application that is gone there.
pub record AreChanges (before after : Ledger) (changes : ItemMap) : Type 0 where
  pub unchanged : (x : Item) → value_in changes x ≡ None → is_of_gone after x ≡ false → at after x ≡ at before x
  pub changed : (x : Item) (v : ItemValue) → value_in changes x ≡ Some v → (is_of_gone after x ≡ false) × (at after x ≡ v) × (at before x ≡ v → ⊥)

-- the writes that change something, where the items had these values
abbrev pub pruned : Look → ItemMap → ItemMap
pruned before writes = filter (λ e. not (is_same_value (before e.0) e.1)) writes

-- what was known of the items before; what isn't known was absent
abbrev pub value_before : Known → Look
value_before known x = unwrap_or (known x) value.Absent
