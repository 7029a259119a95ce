-- The bytes of items, of their values, and of lists of items with their values. Each field has its one encoding.
use Rattle.std.specs.Prelude.{ℕ, List, [], ◌∷◌, ◌++◌}
use Rattle.avm_ledger.specs.Encodings.{u8_bytes, u32_bytes, u64_bytes, short_string_bytes, counted_bytes, schema_bytes, row_bytes, state_bytes, value_bytes}
use Rattle.avm_items.specs.declared.item.Item.{Item}
use Rattle.avm_items.specs.declared.item.Item.TheVariants as item
use Rattle.avm_items.specs.declared.item_value.ItemValue.{ItemValue}
use Rattle.avm_items.specs.declared.item_value.ItemValue.TheVariants as value
use Rattle.avm_items.specs.Items.{ItemMap, kind_of}

-- what an item names, behind its kind
abbrev pub name_bytes : Item → List ℕ
name_bytes item.NextApp = []
name_bytes (item.App id) = u64_bytes id
name_bytes (item.Counts id) = u64_bytes id
name_bytes (item.Key id key) = u64_bytes id ++ short_string_bytes key
name_bytes (item.Local who id) = who.0 ++ u64_bytes id

abbrev pub item_bytes : Item → List ℕ
item_bytes x = u8_bytes (kind_of x) ++ name_bytes x

-- The next id is always there. Of any other item a byte says whether it is.
abbrev pub item_value_bytes : ItemValue → List ℕ
item_value_bytes value.Absent = 0 ∷ []
item_value_bytes (value.NextApp id) = u64_bytes id
item_value_bytes (value.App row) = 1 ∷ row_bytes row
item_value_bytes (value.Counts n) = 1 ∷ schema_bytes n
item_value_bytes (value.Key v) = 1 ∷ value_bytes v
item_value_bytes (value.Local state) = 1 ∷ state_bytes state

abbrev pub item_entry_bytes : Item × ItemValue → List ℕ
item_entry_bytes e = item_bytes e.0 ++ item_value_bytes e.1

-- a count, and each item with its value
abbrev pub items_bytes : ItemMap → List ℕ
items_bytes items = counted_bytes u32_bytes item_entry_bytes items
