-- Items inserted in their order.
use Rattle.std.proofs.Common.{◌≡◌, ◌<◌, ◌+◌, ℕ, ◌∷◌, ◌++◌, drop, get_or, length, ap, sym, subst, ◌∙◌}
use Rattle.std.proofs.lemmas.List.{drop_more}
use Rattle.avm_ledger.proofs.RisingReading.{moved_next}
use Rattle.avm_items.specs.declared.item.Item.{Item}
use Rattle.avm_items.specs.declared.item_value.ItemValue.{ItemValue}
use Rattle.avm_items.specs.Items.{ItemMap, IsInItemOrder, with_item}
use Rattle.avm_items.proofs.Puts.{item_total}

-- with the next item copied, the copy and the rest are still all the items
pub copied_next : (items copy : ItemMap) (x : Item) (v : ItemValue) (rest : ItemMap) → IsInItemOrder items → copy ++ (x, v) ∷ rest ≡ items → with_item copy x v ++ rest ≡ items
copied_next items copy x v rest s is = moved_next item_total copy rest items (x, v) s is

-- the items that a loop over a list has still to copy
pub items_left : (all given : ItemMap) → given ≡ all → (i : ℕ) (e : Item × ItemValue) → i < length given → e ≡ get_or given i e → drop i all ≡ e ∷ drop (i + 1) all
items_left all given same i e within is =
    subst (λ xs. drop i xs ≡ e ∷ drop (i + 1) xs) same (drop_more given i e within ∙ ap (λ y. y ∷ drop (i + 1) given) (sym is))
