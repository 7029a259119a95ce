-- Reading items and their values from bytes: their fields in order, and the first that breaks a rule or that the bytes end in.
use Rattle.std.specs.Prelude.{ℕ, zero, suc, ◌==◌, nat_le, if◌then◌else◌, List, [], length, None, is_none, Result, Ok, Err}
use Rattle.std.specs.Int.{w8, w32, w64}
use Rattle.teal_value.specs.Answer.{◌>>=◌}
use Rattle.teal_value.specs.Keys.{most_key_bytes}
use Rattle.avm_states.specs.declared.schema.Schema.{Schema}
use Rattle.avm_states.specs.Schemas.{most_global_entries}
use Rattle.avm_ledger.specs.declared.ledger_fault.LedgerFault.{LedgerFault}
use Rattle.avm_ledger.specs.declared.ledger_fault.LedgerFault.TheVariants.{Malformed, Truncated, Rest}
use Rattle.avm_ledger.specs.FieldReader.{Front, number_at, short_string_at, address_at, alone}
use Rattle.avm_ledger.specs.LedgerReader.{tested, local_room, value_at, state_at, limited_schema_at, row_at, next_id_at}
use Rattle.avm_items.specs.declared.item.Item.{Item}
use Rattle.avm_items.specs.declared.item.Item.TheVariants as item
use Rattle.avm_items.specs.declared.item_value.ItemValue.{ItemValue}
use Rattle.avm_items.specs.declared.item_value.ItemValue.TheVariants as value
use Rattle.avm_items.specs.Items.{ItemMap, value_in, with_item}

-- ---- items

abbrev pub app_item_at : List ℕ → Front LedgerFault Item
app_item_at bytes = number_at Truncated w64 bytes >>= λ id. Ok (item.App id.0, id.1)

abbrev pub counts_item_at : List ℕ → Front LedgerFault Item
counts_item_at bytes = number_at Truncated w64 bytes >>= λ id. Ok (item.Counts id.0, id.1)

-- a key that isn't too long
abbrev pub short_key_at : List ℕ → Front LedgerFault (List ℕ)
short_key_at bytes = short_string_at Truncated bytes >>= λ k. tested (nat_le (length k.0) most_key_bytes) k

abbrev pub key_item_at : List ℕ → Front LedgerFault Item
key_item_at bytes = do
  id ← number_at Truncated w64 bytes
  key ← short_key_at id.1
  Ok (item.Key id.0 key.0, key.1)

abbrev pub local_item_at : List ℕ → Front LedgerFault Item
local_item_at bytes = do
  who ← address_at Truncated bytes
  id ← number_at Truncated w64 who.1
  Ok (item.Local who.0 id.0, id.1)

-- an item of a kind
abbrev pub item_of_kind : ℕ × List ℕ → Front LedgerFault Item
item_of_kind kind =
    if kind.0 == 0 then Ok (item.NextApp, kind.1) else if kind.0 == 1 then app_item_at kind.1
    else if kind.0 == 2 then counts_item_at kind.1 else if kind.0 == 3 then key_item_at kind.1
    else if kind.0 == 4 then local_item_at kind.1 else Err Malformed

-- the item that the bytes begin with
abbrev pub item_front : List ℕ → Front LedgerFault Item
item_front bytes = number_at Truncated w8 bytes >>= item_of_kind

-- ---- values

abbrev pub next_value_at : List ℕ → Front LedgerFault ItemValue
next_value_at bytes = next_id_at bytes >>= λ id. Ok (value.NextApp id.0, id.1)

abbrev pub row_value_at : List ℕ → Front LedgerFault ItemValue
row_value_at bytes = row_at bytes >>= λ row. Ok (value.App row.0, row.1)

-- A global state has at most as many entries as any schema allows.
abbrev pub counts_value_at : List ℕ → Front LedgerFault ItemValue
counts_value_at bytes = limited_schema_at most_global_entries bytes >>= λ n. Ok (value.Counts n.0, n.1)

-- room for a value of either kind
abbrev pub one_of_each : Schema
one_of_each = record { uints = 1; bytes = 1 }

abbrev pub key_value_at : List ℕ → Front LedgerFault ItemValue
key_value_at bytes = value_at one_of_each bytes >>= λ v. Ok (value.Key v.0, v.1)

-- A local state has at most as many entries as any schema allows.
abbrev pub local_value_at : List ℕ → Front LedgerFault ItemValue
local_value_at bytes = state_at (local_room None) bytes >>= λ state. Ok (value.Local state.0, state.1)

-- a value behind the byte that says whether there is one
abbrev pub if_there : (List ℕ → Front LedgerFault ItemValue) → ℕ × List ℕ → Front LedgerFault ItemValue
if_there there byte = if byte.0 == 0 then Ok (value.Absent, byte.1) else if byte.0 == 1 then there byte.1 else Err Malformed

abbrev pub maybe_at : (List ℕ → Front LedgerFault ItemValue) → List ℕ → Front LedgerFault ItemValue
maybe_at there bytes = number_at Truncated w8 bytes >>= if_there there

-- the value of an item
abbrev pub item_value_at : Item → List ℕ → Front LedgerFault ItemValue
item_value_at item.NextApp bytes = next_value_at bytes
item_value_at (item.App id) bytes = maybe_at row_value_at bytes
item_value_at (item.Counts id) bytes = maybe_at counts_value_at bytes
item_value_at (item.Key id key) bytes = maybe_at key_value_at bytes
item_value_at (item.Local who id) bytes = maybe_at local_value_at bytes

-- the item with its value that the bytes begin with
abbrev pub item_entry_front : List ℕ → Front LedgerFault (Item × ItemValue)
item_entry_front bytes = do
  x ← item_front bytes
  v ← item_value_at x.0 x.1
  Ok ((x.0, v.0), v.1)

-- ---- lists

-- an item that isn't known yet, with its value
abbrev pub new_entry_at : ItemMap → List ℕ → Front LedgerFault (Item × ItemValue)
new_entry_at known bytes = item_entry_front bytes >>= λ e. tested (is_none (value_in known e.0.0)) e

-- so many items with their values, in any order, beside those that are known: each is new
abbrev pub more_items_at : ItemMap → ℕ → List ℕ → Front LedgerFault ItemMap
more_items_at known zero bytes = Ok (known, bytes)
more_items_at known (suc n) bytes = new_entry_at known bytes >>= λ e. more_items_at (with_item known e.0.0 e.0.1) n e.1

-- the items with their values that the bytes begin with, in order of the items
abbrev pub items_front : List ℕ → Front LedgerFault ItemMap
items_front bytes = number_at Truncated w32 bytes >>= λ n. more_items_at [] n.0 n.1

-- the items with their values that the bytes are
abbrev pub items_at : List ℕ → Result ItemMap LedgerFault
items_at bytes = items_front bytes >>= alone Rest
