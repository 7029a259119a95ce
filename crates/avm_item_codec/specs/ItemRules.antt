-- The items that have bytes, and the values that an item may have by itself.
use Rattle.std.specs.Prelude.{◌≡◌, ◌+◌, ◌^◌, ◌<◌, ◌≤◌, List, [], ◌∷◌, length, None}
use Rattle.teal_value.specs.Keys.{most_key_bytes}
use Rattle.avm_states.specs.Schemas.{most_global_entries}
use Rattle.avm_ledger.specs.LedgerReader.{local_room}
use Rattle.avm_ledger.specs.LedgerRules.{IsRow, IsStateValue, IsStateIn}
use Rattle.avm_items.specs.declared.item.Item.{Item}
use Rattle.avm_items.specs.declared.item.Item.TheVariants as item
use Rattle.avm_items.specs.declared.item_value.ItemValue.{ItemValue}
use Rattle.avm_items.specs.declared.item_value.ItemValue.TheVariants as value
use Rattle.avm_items.specs.Items.{ItemMap, value_in, with_item}

-- ids are numbers of 64 bits, an account has 32 bytes, and a key isn't too long
abbrev pub IsItem : Item → Type 0
IsItem item.NextApp = Unit {0}
IsItem (item.App id) = id < 2 ^ 64
IsItem (item.Counts id) = id < 2 ^ 64
IsItem (item.Key id key) = (id < 2 ^ 64) × (length key ≤ most_key_bytes)
IsItem (item.Local who id) = (length who.0 ≡ 32) × (id < 2 ^ 64)

-- A value that an item may have by itself: what two items say together is not looked at.
abbrev pub IsValueFor : Item → ItemValue → Type 0
IsValueFor item.NextApp (value.NextApp id) = (1 ≤ id) × (id < 2 ^ 64)
IsValueFor item.NextApp _ = ⊥
IsValueFor (item.App id) (value.App row) = IsRow row
IsValueFor (item.Counts id) (value.Counts n) = n.uints + n.bytes ≤ most_global_entries
IsValueFor (item.Key id key) (value.Key v) = IsStateValue v
IsValueFor (item.Local who id) (value.Local state) = IsStateIn (local_room None) state
IsValueFor _ value.Absent = Unit {0}
IsValueFor _ _ = ⊥

abbrev pub IsEntry : Item × ItemValue → Type 0
IsEntry e = IsItem e.0 × IsValueFor e.0 e.1

-- each item is new beside those that are known and those before it
abbrev pub AreNew : ItemMap → List (Item × ItemValue) → Type 0
AreNew known [] = Unit {0}
AreNew known (e ∷ es) = (value_in known e.0 ≡ None) × AreNew (with_item known e.0 e.1) es

-- the known items with more, in order of the items
abbrev pub with_all : ItemMap → List (Item × ItemValue) → ItemMap
with_all known [] = known
with_all known (e ∷ es) = with_all (with_item known e.0 e.1) es
