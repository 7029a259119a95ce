-- The value of an item changed in place.
use Rattle.std.proofs.Common.{◌≡◌, ◌∙◌, ℕ, Some, get_or, set, sym, ap, subst}
use Rattle.avm_states.specs.Entries.{Entries}
use Rattle.avm_states.proofs.Maps.{sorted-inserted}
use Rattle.avm_states.specs.Places.{StandsAt}
use Rattle.avm_items.specs.declared.item.Item.{Item}
use Rattle.avm_items.specs.declared.item_value.ItemValue.{ItemValue}
use Rattle.avm_items.specs.Items.{ItemMap, IsInItemOrder, item_cmp, value_in, with_item, local_changed, with_state_changed}
use Rattle.avm_items.proofs.Puts.{item_total}

module _ (items : ItemMap) (x : Item) (place : ℕ) (stands : StandsAt item_cmp x items place) (e : Item × ItemValue) (read : e ≡ get_or items place e) where
  set_is : (w : ItemValue) → set items place (e.0, w) ≡ with_item items x w
  set_is w = ap (λ (f : Item × ItemValue). set items place (f.0, w)) read ∙ sym (stands.set e w)

  -- items stay in order when the value of one is set in place
  pub set_in_order : (w : ItemValue) → IsInItemOrder items → IsInItemOrder (set items place (e.0, w))
  set_in_order w o = subst IsInItemOrder (sym (set_is w)) (sorted-inserted item_total x w items o)

  -- setting an item's changed local state in place gives the items with that state changed
  pub changed_state : (w : ItemValue) (change : Entries → Entries) → w ≡ local_changed change e.1 → set items place (e.0, w) ≡ with_state_changed change items x (value_in items x)
  changed_state w change is =
      set_is w ∙ ap (with_item items x) is ∙ ap (with_state_changed change items x) (ap (λ (f : Item × ItemValue). Some f.1) read ∙ sym (stands.value e))
