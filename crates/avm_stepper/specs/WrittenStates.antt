-- What written items make of the global state of an application; none where it doesn't stand.
use Rattle.std.specs.Prelude.{ℕ, ◌==◌, if◌then◌else◌, List, [], ◌∷◌, Option, Some, None}
use Rattle.avm_states.specs.Entries.{Entries, with_entry, without_entry}
use Rattle.avm_items.specs.declared.item.Item.{Item}
use Rattle.avm_items.specs.declared.item.Item.TheVariants as item
use Rattle.avm_items.specs.declared.item_value.ItemValue.{ItemValue}
use Rattle.avm_items.specs.declared.item_value.ItemValue.TheVariants as value
use Rattle.avm_items.specs.Items.{ItemMap}

-- a new application has no entries, one that stands keeps its own, and one that goes takes them with it
abbrev pub with_row_set : Option Entries → ItemValue → Option Entries
with_row_set None (value.App row) = Some []
with_row_set (Some state) (value.App row) = Some state
with_row_set state value.Absent = None
with_row_set state v = state

-- a key is set in an application that stands
abbrev pub with_key_set : Option Entries → List ℕ → ItemValue → Option Entries
with_key_set None key v = None
with_key_set (Some state) key (value.Key v) = Some (with_entry state key v)
with_key_set (Some state) key value.Absent = Some (without_entry state key)
with_key_set (Some state) key v = Some state

abbrev pub with_item_set : ℕ → Option Entries → Item → ItemValue → Option Entries
with_item_set id state (item.App other) v = if other == id then with_row_set state v else state
with_item_set id state (item.Key other key) v = if other == id then with_key_set state key v else state
with_item_set id state x v = state

abbrev pub with_items_set : ℕ → Option Entries → ItemMap → Option Entries
with_items_set id state [] = state
with_items_set id state (e ∷ es) = with_items_set id (with_item_set id state e.0 e.1) es

-- the local state that an item among written ones sets, else that of before
abbrev pub local_state_over : Option ItemValue → Option Entries → Option Entries
local_state_over (Some (value.Local state)) before = Some state
local_state_over (Some value.Absent) before = None
local_state_over v before = before
