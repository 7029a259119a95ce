-- Looking through a list of entries, one after another.
use Rattle.std.proofs.Common.{◌≡◌, ◌∷◌, ℕ, ◌+◌, ◌<◌, Bool, true, false, Some, length, drop, get_or, ap, ◌∙◌, cond}
use Rattle.std.proofs.lemmas.List.{drop_more}
use Rattle.std.specs.BTreeMap.{is_at}
use Rattle.avm_items.specs.declared.item.Item.{Item}
use Rattle.avm_items.specs.declared.item_value.ItemValue.{ItemValue}
use Rattle.avm_items.specs.Items.{ItemMap, item_cmp, value_in}

by_next : (es : ItemMap) (x : Item) (i : ℕ) (e : Item × ItemValue) (found : Bool) → i < length es → get_or es i e ≡ e → is_at (item_cmp x) e.0 ≡ found
    → value_in (drop i es) x ≡ cond found (Some e.1) (value_in (drop (i + 1) es) x)
by_next es x i e found here is same =
    ap (λ ys. value_in ys x) (drop_more es i e here ∙ ap (λ y. y ∷ drop (i + 1) es) is) ∙ ap (λ b. cond b (Some e.1) (value_in (drop (i + 1) es) x)) same

-- the next entry is another item's
pub goes_past : (es : ItemMap) (x : Item) (i : ℕ) (e : Item × ItemValue) → i < length es → get_or es i e ≡ e → is_at (item_cmp x) e.0 ≡ false → value_in (drop i es) x ≡ value_in (drop (i + 1) es) x
goes_past es x i e here is same = by_next es x i e false here is same

-- the next entry is the item's
pub ends_at : (es : ItemMap) (x : Item) (i : ℕ) (e : Item × ItemValue) → i < length es → get_or es i e ≡ e → is_at (item_cmp x) e.0 ≡ true → value_in (drop i es) x ≡ Some e.1
ends_at es x i e here is same = by_next es x i e true here is same
