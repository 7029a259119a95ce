-- In which order items may be put into a ledger. The statement of the law.
use Rattle.std.specs.Prelude.{◌≡◌, false, List, [], ◌∷◌}
use Rattle.std.specs.Ordering.{is_eq}
use Rattle.std.specs.List.{AllByRecursion}
use Rattle.std.specs.Map.{keys_of}
use Rattle.avm_ledger.specs.Ledgers.{Ledger, IsInOrder}
use Rattle.avm_items.specs.declared.item.Item.{Item}
use Rattle.avm_items.specs.declared.item_value.ItemValue.{ItemValue}
use Rattle.avm_items.specs.Items.{item_cmp, value_in}
use Rattle.avm_items.specs.LedgerItems.{put}
use Rattle.avm_items.specs.PutLaws.{MayPutAll}

-- each item at most once, in any order
abbrev pub AreDistinct : List (Item × ItemValue) → Type 0
AreDistinct [] = Unit {0}
AreDistinct (e ∷ es) = AllByRecursion (λ y. is_eq (item_cmp e.0 y) ≡ false) (keys_of es) × AreDistinct es

-- The order in which items are put doesn't matter, as long as each may be put where its turn comes: a key only in an
-- application that stands.
abbrev pub OrderDoesNotMatter : Type 0
OrderDoesNotMatter =
    (l : Ledger) (items others : List (Item × ItemValue)) → IsInOrder l → AreDistinct items → AreDistinct others → ((x : Item) → value_in items x ≡ value_in others x) → MayPutAll l items → MayPutAll l others
    → put l items ≡ put l others
