-- What setting an item of a ledger changes. The statements of the laws of `put_one` and `at`.
use Rattle.std.specs.Prelude.{◌≡◌, ◌==◌, ◌||◌, Bool, true, false, [], ◌∷◌, unwrap_or}
use Rattle.std.specs.Map.{keys_of}
use Rattle.std.specs.List.Sorted.{IsStrictlySortedBy}
use Rattle.std.specs.Ordering.{is_eq}
use Rattle.avm_ledger.specs.Ledgers.{Ledger, IsInOrder}
use Rattle.avm_items.specs.declared.item.Item.{Item}
use Rattle.avm_items.specs.declared.item.Item.TheVariants as item
use Rattle.avm_items.specs.declared.item_value.ItemValue.{ItemValue}
use Rattle.avm_items.specs.declared.item_value.ItemValue.TheVariants as value
use Rattle.avm_items.specs.Items.{ItemMap, item_cmp, value_in}
use Rattle.avm_items.specs.LedgerItems.{at, put_one, put, is_of_gone}

-- a value that the item may be set to: one of its kind, and a key's where its application stands
abbrev pub MaySet : Ledger → Item → ItemValue → Type 0
MaySet l item.NextApp (value.NextApp id) = Unit {0}
MaySet l (item.App id) (value.App row) = Unit {0}
MaySet l (item.App id) value.Absent = Unit {0}
MaySet l (item.Key id key) (value.Key v) = is_of_gone l (item.Key id key) ≡ false
MaySet l (item.Key id key) value.Absent = is_of_gone l (item.Key id key) ≡ false
MaySet l (item.Local who id) (value.Local state) = Unit {0}
MaySet l (item.Local who id) value.Absent = Unit {0}
MaySet l _ _ = ⊥

-- An application brings and takes its keys and counts, and a key changes the counts.
abbrev pub changes_with : Item → Item → Bool
changes_with (item.App id) (item.Counts other) = other == id
changes_with (item.App id) (item.Key other key) = other == id
changes_with (item.Key id key) (item.Counts other) = other == id
changes_with _ _ = false

-- An item's value after a put is what was put.
abbrev pub HasWhatWasPut : Type 0
HasWhatWasPut = (l : Ledger) (x : Item) (v : ItemValue) → IsInOrder l → MaySet l x v → at (put_one l x v) x ≡ v

-- Any other item's value is as before.
abbrev pub KeepsOthers : Type 0
KeepsOthers = (l : Ledger) (x y : Item) (v : ItemValue) → is_eq (item_cmp y x) ≡ false → changes_with x y ≡ false → at (put_one l x v) y ≡ at l y

abbrev pub StaysInOrder : Type 0
StaysInOrder = (l : Ledger) (x : Item) (v : ItemValue) → IsInOrder l → IsInOrder (put_one l x v)

-- Two ledgers with the same items are the same.
abbrev pub IsItsItems : Type 0
IsItsItems = (l m : Ledger) → IsInOrder l → IsInOrder m → ((x : Item) → at l x ≡ at m x) → l ≡ m

-- ---- many items, by rising item

abbrev pub is_counts : Item → Bool
is_counts (item.Counts id) = true
is_counts _ = false

-- a put that takes the application of a key away
abbrev pub deletes : Item → ItemValue → Item → Bool
deletes (item.App id) value.Absent (item.Key other key) = other == id
deletes _ _ _ = false

abbrev pub is_deleted_by : ItemMap → Item → Bool
is_deleted_by [] x = false
is_deleted_by (e ∷ es) x = deletes e.0 e.1 x || is_deleted_by es x

-- a value that may be put; counts follow from keys, so any may stand there
abbrev pub MayPut : Ledger → Item → ItemValue → Type 0
MayPut l (item.Counts id) v = Unit {0}
MayPut l x v = MaySet l x v

abbrev pub MayPutAll : Ledger → ItemMap → Type 0
MayPutAll l [] = Unit {0}
MayPutAll l (e ∷ es) = MayPut l e.0 e.1 × MayPutAll (put_one l e.0 e.1) es

-- After many puts an item has the value that was put, and where none was, the value of before. Counts follow from the
-- keys, and so does a key whose application is taken away.
abbrev pub HasWhatWasPutLast : Type 0
HasWhatWasPutLast = (l : Ledger) (items : ItemMap) (x : Item) → IsInOrder l → IsStrictlySortedBy item_cmp (keys_of items) → MayPutAll l items
    → is_counts x ≡ false → is_deleted_by items x ≡ false → at (put l items) x ≡ unwrap_or (value_in items x) (at l x)
