-- The laws of the bytes of items and of their values.
use Rattle.std.specs.Prelude.{◌≡◌, ℕ, ◌^◌, ◌<◌, List, [], ◌++◌, length, All, Ok}
use Rattle.avm_ledger.specs.Ledgers.{Ledger}
use Rattle.avm_ledger.specs.LedgerRules.{KeepsRules}
use Rattle.avm_ledger.specs.Encodings.{counted_bytes, u32_bytes}
use Rattle.avm_items.specs.declared.item.Item.{Item}
use Rattle.avm_items.specs.declared.item_value.ItemValue.{ItemValue}
use Rattle.avm_items.specs.Items.{ItemMap, IsInItemOrder}
use Rattle.avm_items.specs.LedgerItems.{at}
use Rattle.avm_item_codec.specs.ItemEncoding.{item_bytes, item_value_bytes, item_entry_bytes, items_bytes}
use Rattle.avm_item_codec.specs.ItemReader.{item_front, item_value_at, items_front, items_at}
use Rattle.avm_item_codec.specs.ItemRules.{IsItem, IsValueFor, IsEntry, AreNew, with_all}

-- ---- What is written reads back, whatever stands behind it.

abbrev pub ItemReadsBack : Type 0
ItemReadsBack = (x : Item) (rest : List ℕ) → IsItem x → item_front (item_bytes x ++ rest) ≡ Ok (x, rest)

abbrev pub ValueReadsBack : Type 0
ValueReadsBack = (x : Item) (v : ItemValue) (rest : List ℕ) → IsValueFor x v → item_value_at x (item_value_bytes v ++ rest) ≡ Ok (v, rest)

-- A list of items, each once and in any order, is read as the items in their order.
abbrev pub ListReadsBack : Type 0
ListReadsBack =
    (es : List (Item × ItemValue)) (rest : List ℕ) → All IsEntry es → AreNew [] es → length es < 2 ^ 32
    → items_front (counted_bytes u32_bytes item_entry_bytes es ++ rest) ≡ Ok (with_all [] es, rest)

-- Items in their order are each there once, and are read as they are.
abbrev pub MapReadsBack : Type 0
MapReadsBack = (items : ItemMap) → All IsEntry items → IsInItemOrder items → length items < 2 ^ 32 → items_at (items_bytes items) ≡ Ok items

-- ---- No encoding begins another.

abbrev pub NoItemBeginsAnother : Type 0
NoItemBeginsAnother = (x y : Item) (p q : List ℕ) → IsItem x → IsItem y → item_bytes x ++ p ≡ item_bytes y ++ q → (x ≡ y) × (p ≡ q)

abbrev pub NoValueBeginsAnother : Type 0
NoValueBeginsAnother =
    (x : Item) (v w : ItemValue) (p q : List ℕ) → IsValueFor x v → IsValueFor x w → item_value_bytes v ++ p ≡ item_value_bytes w ++ q → (v ≡ w) × (p ≡ q)

-- ---- What is read is encoded so, and keeps the rules.

abbrev pub ItemEncodesBack : Type 0
ItemEncodesBack = (bytes : List ℕ) (x : Item) (rest : List ℕ) → All (λ b. b < 256) bytes → item_front bytes ≡ Ok (x, rest) → (item_bytes x ++ rest ≡ bytes) × IsItem x

abbrev pub ValueEncodesBack : Type 0
ValueEncodesBack =
    (x : Item) (bytes : List ℕ) (v : ItemValue) (rest : List ℕ) → All (λ b. b < 256) bytes → item_value_at x bytes ≡ Ok (v, rest)
    → (item_value_bytes v ++ rest ≡ bytes) × IsValueFor x v

-- The entries that a list is read from: each item once, in the order of the bytes.
pub record IsListOf (bytes : List ℕ) (items : ItemMap) (rest : List ℕ) (es : List (Item × ItemValue)) : Type 0 where
  pub encoded : counted_bytes u32_bytes item_entry_bytes es ++ rest ≡ bytes
  pub once : AreNew [] es
  pub are : with_all [] es ≡ items
  pub entries : All IsEntry es

abbrev pub ListEncodesBack : Type 0
ListEncodesBack =
    (bytes : List ℕ) (items : ItemMap) (rest : List ℕ) → All (λ b. b < 256) bytes → items_front bytes ≡ Ok (items, rest)
    → (es : List (Item × ItemValue)) × IsListOf bytes items rest es

-- ---- Each item of a ledger that keeps the rules has a value that has bytes.
abbrev pub LedgersHaveValues : Type 0
LedgersHaveValues = (l : Ledger) (x : Item) → KeepsRules l → IsItem x → IsValueFor x (at l x)
