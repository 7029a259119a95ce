-- What keeps the order of the items of a map.
use Rattle.std.proofs.Common.{◌≡◌, Bool, true, false, [], ◌∷◌, Result, Ok, Err, IfOk, IfErr, sym, subst, cond}
use Rattle.std.specs.Prelude.{filter}
use Rattle.std.specs.List.{AllByRecursion}
use Rattle.std.specs.List.Sorted.{IsStrictlySortedBy}
use Rattle.std.specs.Map.{keys_of}
use Rattle.std.specs.declared.cmp.Ordering.TheVariants.{Less}
use Rattle.avm_states.proofs.Maps.{sorted-inserted}
use Rattle.avm_items.specs.declared.item.Item.{Item}
use Rattle.avm_items.specs.declared.item_value.ItemValue.{ItemValue}
use Rattle.avm_items.specs.Items.{ItemMap, IsInItemOrder, item_cmp, with_item}
use Rattle.avm_items.proofs.Puts.{item_total}

pub none_in_order : IsInItemOrder []
unfolding IsStrictlySortedBy
none_in_order = tt

-- items stay in order after a put, and after a failed one that leaves them as they were
pub put_in_order : {A B : Type 0} (r : Result A B) (old new : ItemMap) (x : Item) (v : ItemValue) → IsInItemOrder old
    → IfOk r (λ _. new ≡ with_item old x v) → IfErr r (λ _. new ≡ old) → IsInItemOrder new
put_in_order (Ok a) old new x v o put same = subst IsInItemOrder (sym put) (sorted-inserted item_total x v old o)
put_in_order (Err b) old new x v o put same = subst IsInItemOrder (sym same) o

module _ (p : Item × ItemValue → Bool) where
  below_kept_by : (x : Item) (e : Item × ItemValue) (es : ItemMap) → item_cmp x e.0 ≡ Less → AllByRecursion (λ y. item_cmp x y ≡ Less) (keys_of (filter p es))
      → (b : Bool) → AllByRecursion (λ y. item_cmp x y ≡ Less) (keys_of (cond b (e ∷ filter p es) (filter p es)))
  below_kept_by x e es first rest true = (first, rest)
  below_kept_by x e es first rest false = rest

  below_kept : (x : Item) (es : ItemMap) → AllByRecursion (λ y. item_cmp x y ≡ Less) (keys_of es) → AllByRecursion (λ y. item_cmp x y ≡ Less) (keys_of (filter p es))
  below_kept x [] below = tt
  below_kept x (e ∷ es) below = below_kept_by x e es below.0 (below_kept x es below.1) (p e)

  kept_by : (e : Item × ItemValue) (es : ItemMap) → AllByRecursion (λ y. item_cmp e.0 y ≡ Less) (keys_of (filter p es)) → IsInItemOrder (filter p es)
      → (b : Bool) → IsInItemOrder (cond b (e ∷ filter p es) (filter p es))
  unfolding IsStrictlySortedBy
  kept_by e es below rest true = (below, rest)
  kept_by e es below rest false = rest

  -- the items that pass a test are in order where all are
  pub kept_in_order : (es : ItemMap) → IsInItemOrder es → IsInItemOrder (filter p es)
  unfolding IsStrictlySortedBy
  kept_in_order [] o = tt
  kept_in_order (e ∷ es) o = kept_by e es (below_kept e.0 es o.0) (kept_in_order es o.1) (p e)
