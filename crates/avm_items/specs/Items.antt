-- Items in order, finite maps from items to values, and what their values say.
use Rattle.std.specs.Prelude.{ℕ, ◌==◌, Bool, false, List, [], ◌∷◌, ◌++◌, Option, Some, None}
use Rattle.std.specs.declared.cmp.Ordering.{Ordering}
use Rattle.std.specs.List.Sorted.{IsStrictlySortedBy}
use Rattle.std.specs.Map.{lookup, keys_of}
use Rattle.std.specs.BTreeMap.{insert_entry, is_at}
use Rattle.teal_value.specs.declared.value.Value.{Value}
use Rattle.teal_value.specs.Choice.{or_else}
use Rattle.avm_ledger.specs.declared.application.Application.{Application}
use Rattle.avm_states.specs.declared.schema.Schema.{Schema}
use Rattle.avm_states.specs.Entries.{Entries, byte_cmp}
use Rattle.avm_items.specs.declared.item.Item.{Item}
use Rattle.avm_items.specs.declared.item.Item.TheVariants as item
use Rattle.avm_items.specs.declared.item_value.ItemValue.{ItemValue}
use Rattle.avm_items.specs.declared.item_value.ItemValue.TheVariants as value

-- the place of an item's kind among the kinds
abbrev pub kind_of : Item → ℕ
kind_of item.NextApp = 0
kind_of (item.App id) = 1
kind_of (item.Counts id) = 2
kind_of (item.Key id key) = 3
kind_of (item.Local who id) = 4

-- Items are ordered by their kind, and then by what they name: lists of numbers are compared.
abbrev pub sort_key : Item → List ℕ
sort_key item.NextApp = 0 ∷ []
sort_key (item.App id) = 1 ∷ id ∷ []
sort_key (item.Counts id) = 2 ∷ id ∷ []
sort_key (item.Key id key) = 3 ∷ id ∷ key
sort_key (item.Local who id) = 4 ∷ who.0 ++ id ∷ []

abbrev pub item_cmp : Item → Item → Ordering
item_cmp x y = byte_cmp (sort_key x) (sort_key y)

-- values of some items, by rising item
abbrev pub ItemMap : Type 0
ItemMap = List (Item × ItemValue)

-- the items rise
abbrev pub IsInItemOrder : ItemMap → Type 0
IsInItemOrder items = IsStrictlySortedBy item_cmp (keys_of items)

abbrev pub value_in : ItemMap → Item → Option ItemValue
value_in items x = lookup (is_at (item_cmp x)) items

abbrev pub with_item : ItemMap → Item → ItemValue → ItemMap
with_item items x v = insert_entry item_cmp items x v

-- the value of every item
abbrev pub Look : Type 0
Look = Item → ItemValue

-- the values that are known of some items
abbrev pub Known : Type 0
Known = Item → Option ItemValue

-- what is known where the writes come before what was read
abbrev pub over : Known → Known → Known
over writes reads x = or_else (writes x) (reads x)

-- the counts and the keys of an application's global state
abbrev pub is_global_of : ℕ → Item → Bool
is_global_of id (item.Counts app) = app == id
is_global_of id (item.Key app key) = app == id
is_global_of id _ = false

-- a value whose local state is changed; any other stays
abbrev pub local_changed : (Entries → Entries) → ItemValue → ItemValue
local_changed change (value.Local state) = value.Local (change state)
local_changed change v = v

-- items where the local state that an item has is changed
abbrev pub with_state_changed : (Entries → Entries) → ItemMap → Item → Option ItemValue → ItemMap
with_state_changed change items x (Some v) = with_item items x (local_changed change v)
with_state_changed change items x None = items

-- ---- what a value says of an item of its kind; any other says nothing

abbrev pub next_id_in : ItemValue → ℕ
next_id_in (value.NextApp id) = id
next_id_in _ = 0

abbrev pub application_in : ItemValue → Option Application
application_in (value.App row) = Some row
application_in _ = None

abbrev pub kept_counts_in : ItemValue → Option Schema
kept_counts_in (value.Counts n) = Some n
kept_counts_in _ = None

abbrev pub entry_in : ItemValue → Option Value
entry_in (value.Key v) = Some v
entry_in _ = None

abbrev pub local_state_in : ItemValue → Option Entries
local_state_in (value.Local state) = Some state
local_state_in _ = None

-- the local state that an item has, if it is known
abbrev pub state_of : Option ItemValue → Option Entries
state_of (Some v) = local_state_in v
state_of None = None

-- the value of a key's item
abbrev pub key_value : Option Value → ItemValue
key_value None = value.Absent
key_value (Some v) = value.Key v
