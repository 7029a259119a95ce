-- A worker's attempt after another was set, and where a sorted map lists a new item.
use Rattle.std.proofs.Common.{◌≡◌, ℕ, zero, suc, ◌≢◌, cond, List, [], ◌∷◌, Option, None, Some, get_or, set, refl, ap, arith}
use Rattle.std.specs.List.{insert}
use Rattle.std.specs.Ordering.{is_eq, match_ordering}
use Rattle.std.specs.BTreeMap.{insert_entry}
use Rattle.std.specs.declared.cmp.Ordering.{Ordering}
use Rattle.std.specs.declared.cmp.Ordering.TheVariants.{Less, Equal, Greater}
use Rattle.avm_items.specs.declared.item.Item.{Item}
use Rattle.avm_items.specs.declared.item_value.ItemValue.{ItemValue}
use Rattle.avm_items.specs.Items.{ItemMap, item_cmp, value_in, with_item}
use Rattle.mv_core.specs.Running.{index_among}

-- what stands at an index of a list in which one place was set
pub data AfterSet {X : Type 0} (xs : List (Option X)) (i : ℕ) (o : Option X) (w : ℕ) (a : X) : Type 0 where
  itself : w ≡ i → o ≡ Some a → AfterSet xs i o w a
  other : w ≢ i → get_or xs w None ≡ Some a → AfterSet xs i o w a

pub after_set : {X : Type 0} (xs : List (Option X)) (i : ℕ) (o : Option X) (w : ℕ) (a : X) → get_or (set xs i o) w None ≡ Some a → AfterSet xs i o w a
after_set [] i o w a e = absurd cc
after_set (x ∷ xs) zero o zero a e = itself refl e
after_set (x ∷ xs) zero o (suc w) a e = other (λ h. omega (arith, h)) e
after_set (x ∷ xs) (suc i) o zero a e = other (λ h. omega (arith, h)) e
after_set (x ∷ xs) (suc i) o (suc w) a e =
    elim (after_set xs i o w a e) [
      | itself h k ↦ itself (ap suc h) k
      | other h k ↦ other (λ same. h (omega (arith, same))) k
    ]

-- a new item joins the reads at its index in their order
pub with_item-new : (reads : ItemMap) (x : Item) (v : ItemValue) → value_in reads x ≡ None → with_item reads x v ≡ insert reads (index_among reads x) (x, v)
with_item-new [] x v none = refl
with_item-new (e ∷ es) x v none = by (item_cmp x e.0) none (with_item-new es x v)
  where
    by : (r : Ordering) → cond (is_eq r) (Some e.1) (value_in es x) ≡ None → (value_in es x ≡ None → with_item es x v ≡ insert es (index_among es x) (x, v))
        → match_ordering r ((x, v) ∷ e ∷ es) ((e.0, v) ∷ es) (e ∷ insert_entry item_cmp es x v) ≡ insert (e ∷ es) (match_ordering r 0 0 (suc (index_among es x))) (x, v)
    by Less is rest = refl
    by Equal is rest = absurd cc
    by Greater is rest = ap (λ l. e ∷ l) (rest is)
