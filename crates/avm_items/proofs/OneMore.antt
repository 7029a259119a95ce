-- One item more among those that are known: what was known stays.
use Rattle.std.proofs.Common.{◌≡◌, ◌+◌, Bool, true, false, cond, [], ◌∷◌, length, None, Some, refl, sym, ap, ◌∙◌, arith}
use Rattle.std.specs.Ordering.{is_eq, match_ordering}
use Rattle.std.specs.declared.cmp.Ordering.{Ordering}
use Rattle.std.specs.declared.cmp.Ordering.TheVariants.{Less, Equal, Greater}
use Rattle.avm_states.proofs.Maps.{is_Equal, lookup-inserted, lookup-inserted_other}
use Rattle.avm_items.specs.declared.item.Item.{Item}
use Rattle.avm_items.specs.declared.item_value.ItemValue.{ItemValue}
use Rattle.avm_items.specs.Items.{ItemMap, Look, item_cmp, value_in, with_item}
use Rattle.avm_items.specs.Locality.{LookAgrees, Extends}
use Rattle.avm_items.proofs.Puts.{item_same, item_total}

-- two items are the same or do not tie
pub same_or_other : {P : Type 0} (x y : Item) → (y ≡ x → P) → (is_eq (item_cmp y x) ≡ false → P) → P
same_or_other {P = P} x y same other = by (is_eq (item_cmp y x)) refl
  where
    by : (b : Bool) → is_eq (item_cmp y x) ≡ b → P
    by true e = same (item_same y x (is_Equal (item_cmp y x) e))
    by false e = other e

-- an item that was added has the value it was added with
pub is_there : (items : ItemMap) (x : Item) (v : ItemValue) → value_in (with_item items x v) x ≡ Some v
is_there items x v = lookup-inserted item_total x v items

-- what is known stays known when an unknown item is added
pub still_known : (items : ItemMap) (x : Item) (v : ItemValue) → value_in items x ≡ None → Extends (value_in items) (value_in (with_item items x v))
still_known items x v none = record {
  same = λ y u e.
      same_or_other x y (λ same. let both : None ≡ Some u = sym none ∙ ap (value_in items) (sym same) ∙ e in absurd cc)
      (λ other. lookup-inserted_other item_total y x v items other ∙ e);
}

-- adding an item that was unknown makes the map one entry longer
pub one_longer : (items : ItemMap) (x : Item) (v : ItemValue) → value_in items x ≡ None → length (with_item items x v) ≡ length items + 1
one_longer [] x v none = refl
one_longer (e ∷ es) x v none = by (item_cmp x e.0) none (one_longer es x v)
  where
    by : (r : Ordering) → cond (is_eq r) (Some e.1) (value_in es x) ≡ None → (value_in es x ≡ None → length (with_item es x v) ≡ length es + 1) → length (match_ordering r ((x, v) ∷ e ∷ es) ((e.0, v) ∷ es) (e ∷ with_item es x v)) ≡ length (e ∷ es) + 1
    by Less n h = omega arith
    by Equal n h = absurd cc
    by Greater n h = omega (arith, h n)

-- a ledger with each known value and the added one has each value known after the addition
pub agrees_after : (items : ItemMap) (x : Item) (v : ItemValue) (look : Look) → look x ≡ v → LookAgrees (value_in items) look → LookAgrees (value_in (with_item items x v)) look
agrees_after items x v look is old = record {
  at = λ y u e.
      same_or_other x y
      (λ same. let found : Some v ≡ Some u = sym (is_there items x v) ∙ ap (value_in (with_item items x v)) (sym same) ∙ e in let value : v ≡ u = cc in ap look same ∙ is ∙ value)
      (λ other. old.at y u (sym (lookup-inserted_other item_total y x v items other) ∙ e));
}
