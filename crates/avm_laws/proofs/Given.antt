-- That putting what a ledger has into another gives this ledger.
use Rattle.std.proofs.Common.{◌≡◌, ℕ, Bool, true, false, List, [], ◌∷◌, Option, None, Some, refl, sym, ap, ◌∙◌, subst, cond}
use Rattle.std.specs.Prelude.{◌==◌, is_none, unwrap_or}
use Rattle.std.proofs.lemmas.Bool.{eqb-true, or_from}
use Rattle.std.specs.Ordering.{is_eq}
use Rattle.std.specs.declared.cmp.Ordering.TheVariants.{Less}
use Rattle.std.specs.Cmp.{tied_itself}
use Rattle.std.proofs.lemmas.Cmp.{nat_cmp_total}
use Rattle.std.specs.FinMap.{nat_cmp-IsAntisymmetric}
use Rattle.std.specs.Map.{keys_of}
use Rattle.std.specs.List.{AllByRecursion}
use Rattle.std.specs.List.Sorted.{IsStrictlySortedBy}
use Rattle.teal_value.specs.declared.value.Value.{Value}
use Rattle.avm_states.specs.Entries.{Entries, value_of_key}
use Rattle.avm_ledger.specs.declared.application.StoredApplication.{StoredApplication}
use Rattle.avm_ledger.specs.Ledgers.{Ledger, application_at, local_state_at, IsInOrder}
use Rattle.avm_states.proofs.KeyOrder.{byte_total, byte_same}
use Rattle.avm_ledger.proofs.Changes.{account_total, account_same}
use Rattle.avm_states.proofs.Maps.{is_Equal, above_tied, all_below, below_none, same_map}
use Rattle.avm_items.specs.declared.item.Item.{Item}
use Rattle.avm_items.specs.declared.item.Item.TheVariants as item
use Rattle.avm_items.specs.declared.item_value.ItemValue.{ItemValue}
use Rattle.avm_items.specs.declared.item_value.ItemValue.TheVariants as value
use Rattle.avm_items.specs.Items.{ItemMap, IsInItemOrder, item_cmp, value_in, key_value}
use Rattle.avm_items.specs.LedgerItems.{at, put_one, put, row_value, entry_value, local_value, is_of_gone, AreChanges}
use Rattle.avm_items.specs.PutLaws.{MaySet, is_counts, deletes, MayPut}
use Rattle.avm_items.proofs.Puts.{has_what_was_put_last, stays_in_order, item_same as same_if_equal, item_total, key_values, local_values, same_application}

-- ---- items that tie are the same

pub item_same : (x y : Item) → is_eq (item_cmp x y) ≡ true → x ≡ y
item_same x y e = same_if_equal x y (is_Equal (item_cmp x y) e)

-- ---- two ledgers that agree on all items but counts, and the keys of applications that are gone

next_ids : {n m : ℕ} → value.NextApp n ≡ value.NextApp m → n ≡ m
next_ids e = cc

-- the second ledger's items, but for counts and keys of applications that are gone, have these values
abbrev pub HasItems : Ledger → (Item → ItemValue) → Type 0
HasItems m look = (x : Item) → is_counts x ≡ false → is_of_gone m x ≡ false → look x ≡ at m x

-- ledgers in order are the same if all items agree, but for counts and keys of gone applications
pub has_all : (l m : Ledger) → IsInOrder l → IsInOrder m → HasItems m (at l) → l ≡ m
has_all l m o p same =
    let next : l.next_id ≡ m.next_id = next_ids (same item.NextApp refl refl) in
    let apps = same_map nat_cmp_total nat_cmp-IsAntisymmetric l.applications m.applications o.applications p.applications
    (λ id. same_application l m id o p (application_at l id) (application_at m id) refl refl (same (item.App id) refl refl) (λ stands key. same (item.Key id key) refl stands)) in
    let locals = same_map account_total account_same l.local_states m.local_states o.local_states p.local_states
    (λ x. local_values (local_state_at l x.0 x.1) (local_state_at m x.0 x.1) (same (item.Local x.0 x.1) refl refl)) in
    λ i. record { next_id = next i; applications = apps i; local_states = locals i }

-- ---- one put

-- an item's value after a put, if the put takes no key of it away
pub one_put : (l : Ledger) (e : Item × ItemValue) (x : Item) → IsInOrder l → MayPut l e.0 e.1 → is_counts x ≡ false → deletes e.0 e.1 x ≡ false
    → at (put_one l e.0 e.1) x ≡ unwrap_or (value_in (e ∷ []) x) (at l x)
unfolding IsStrictlySortedBy
one_put l e x o m c d = has_what_was_put_last l (e ∷ []) x o (tt, tt) (m, tt) c (or_from (deletes e.0 e.1 x) false d refl)

-- the value of an item in the rest of a list
rest_by : (e : Item × ItemValue) (es : ItemMap) (x : Item) (v : ItemValue) → AllByRecursion (λ y. item_cmp e.0 y ≡ Less) (keys_of es) → (b : Bool) → is_eq (item_cmp x e.0) ≡ b
    → unwrap_or (value_in es x) (unwrap_or (cond b (Some e.1) None) v) ≡ unwrap_or (cond b (Some e.1) (value_in es x)) v
rest_by e es x v below true same =
    ap (λ found. unwrap_or found e.1) (below_none item_total x es (above_tied item_total x e.0 (keys_of es) (is_Equal (item_cmp x e.0) same) below))
rest_by e es x v below false apart = refl

-- the first item of a list is found there with its own value
pub found_itself : (e : Item × ItemValue) (es : ItemMap) → value_in (e ∷ es) e.0 ≡ Some e.1
found_itself e es = ap (λ r. cond (is_eq r) (Some e.1) (value_in es e.0)) (tied_itself item_total e.0)

-- ---- what remains to be put into a ledger, so that it becomes another

pub record PutGives (l : Ledger) (items : ItemMap) (m : Ledger) : Type 0 where
  pub order : IsInOrder l
  pub sorted : IsInItemOrder items
  pub has : HasItems m (λ x. unwrap_or (value_in items x) (at l x))
  pub stands : (x : Item) (v : ItemValue) → value_in items x ≡ Some v → is_of_gone m x ≡ false

put_value : (l m : Ledger) (e : Item × ItemValue) (es : ItemMap) → PutGives l (e ∷ es) m → is_counts e.0 ≡ false → at m e.0 ≡ e.1
put_value l m e es g c =
    sym (g.has e.0 c (g.stands e.0 e.1 (found_itself e es))) ∙ ap (λ found. unwrap_or found (at l e.0)) (found_itself e es)

may_row : (l : Ledger) (id : ℕ) (a : Option StoredApplication) → MaySet l (item.App id) (row_value a)
may_row l id None = tt
may_row l id (Some app) = tt

stands_too : (a b : Option StoredApplication) → row_value a ≡ row_value b → is_none b ≡ false → is_none a ≡ false
stands_too None None e h = h
stands_too None (Some b) e h = absurd cc
stands_too (Some a) b e h = refl

may_key : (l : Ledger) (id : ℕ) (key : List ℕ) (a : Option StoredApplication) → is_none (application_at l id) ≡ false → MaySet l (item.Key id key) (entry_value a key)
may_key l id key None h = h
may_key l id key (Some app) h = by_value (value_of_key app.state key)
  where
    by_value : (o : Option Value) → MaySet l (item.Key id key) (key_value o)
    by_value None = h
    by_value (Some v) = h

-- the application of the first key stands already
key_stands : (l m : Ledger) (id : ℕ) (key : List ℕ) (v : ItemValue) (es : ItemMap) → PutGives l ((item.Key id key, v) ∷ es) m → is_none (application_at l id) ≡ false
unfolding IsStrictlySortedBy
key_stands l m id key v es g =
    let none : value_in ((item.Key id key, v) ∷ es) (item.App id) ≡ None =
    below_none item_total (item.App id) ((item.Key id key, v) ∷ es) (refl, all_below item_total (item.App id) (item.Key id key) (keys_of es) refl g.sorted.0) in
    let row : at l (item.App id) ≡ at m (item.App id) = ap (λ found. unwrap_or found (at l (item.App id))) (sym none) ∙ g.has (item.App id) refl refl in
    stands_too (application_at l id) (application_at m id) row (g.stands (item.Key id key) v (found_itself (item.Key id key, v) es))

may_first : (l m : Ledger) (x : Item) (v : ItemValue) (es : ItemMap) → PutGives l ((x, v) ∷ es) m → MayPut l x v
may_first l m item.NextApp v es g = subst (MaySet l item.NextApp) (put_value l m (item.NextApp, v) es g refl) tt
may_first l m (item.App id) v es g = subst (MaySet l (item.App id)) (put_value l m (item.App id, v) es g refl) (may_row l id (application_at m id))
may_first l m (item.Counts id) v es g = tt
may_first l m (item.Key id key) v es g =
    subst (MaySet l (item.Key id key)) (put_value l m (item.Key id key, v) es g refl) (may_key l id key (application_at m id) (key_stands l m id key v es g))
may_first l m (item.Local who id) v es g =
    subst (MaySet l (item.Local who id)) (put_value l m (item.Local who id, v) es g refl) (by_state (local_state_at m who id))
  where
    by_state : (a : Option Entries) → MaySet l (item.Local who id) (local_value a)
    by_state None = tt
    by_state (Some state) = tt

-- an application whose row is absent is gone
pub gone_row : (a : Option StoredApplication) → row_value a ≡ value.Absent → is_none a ≡ true
gone_row None e = refl
gone_row (Some app) e = absurd cc

no_key : (m : Ledger) (id other : ℕ) (key : List ℕ) → at m (item.App id) ≡ value.Absent → is_of_gone m (item.Key other key) ≡ false → (b : Bool) → (other == id) ≡ b → b ≡ false
no_key m id other key gone stands true same =
    let there : other ≡ id = eqb-true other id same in
    let none : is_none (application_at m id) ≡ true = gone_row (application_at m id) gone in
    let some : is_none (application_at m id) ≡ false = subst (λ n. is_none (application_at m n) ≡ false) there stands in
    sym none ∙ some
no_key m id other key gone stands false differs = refl

-- no key of an application that stands in the end is taken away
none_gone : (l m : Ledger) (x : Item) (v : ItemValue) (es : ItemMap) → PutGives l ((x, v) ∷ es) m → (y : Item) → is_of_gone m y ≡ false → deletes x v y ≡ false
none_gone l m (item.App id) value.Absent es g (item.Key other key) stands = no_key m id other key (put_value l m (item.App id, value.Absent) es g refl) stands (other == id) refl
none_gone l m x v es g y stands = refl

step : (l m : Ledger) (e : Item × ItemValue) (es : ItemMap) → PutGives l (e ∷ es) m → PutGives (put_one l e.0 e.1) es m
unfolding IsStrictlySortedBy
step l m e es g = record {
  order = stays_in_order l e.0 e.1 g.order;
  sorted = g.sorted.1;
  has = λ x c s.
      ap (unwrap_or (value_in es x)) (one_put l e x g.order (may_first l m e.0 e.1 es g) c (none_gone l m e.0 e.1 es g x s))
      ∙ rest_by e es x (at l x) g.sorted.0 (is_eq (item_cmp x e.0)) refl
      ∙ g.has x c s;
  stands = λ x v there. later x v there (is_eq (item_cmp x e.0)) refl;
}
  where
    later : (x : Item) (v : ItemValue) → value_in es x ≡ Some v → (b : Bool) → is_eq (item_cmp x e.0) ≡ b → is_of_gone m x ≡ false
    later x v there true p = g.stands x e.1 (ap (λ b. cond b (Some e.1) (value_in es x)) p)
    later x v there false p = g.stands x v (ap (λ b. cond b (Some e.1) (value_in es x)) p ∙ there)

-- with what remains put into it, the ledger is the other one
pub put_gives : (l m : Ledger) (items : ItemMap) → IsInOrder m → PutGives l items m → put l items ≡ m
put_gives l m [] o g = has_all l m g.order o g.has
put_gives l m (e ∷ es) o g = put_gives (put_one l e.0 e.1) m es o (step l m e es g)

-- ---- changes

-- the changes between two ledgers, put into the first, give the second
pub puts_changes : (before after : Ledger) (changes : ItemMap) → IsInOrder before → IsInOrder after → IsInItemOrder changes → AreChanges before after changes → put before changes ≡ after
puts_changes before after changes o p s are = put_gives before after changes p (record {
  order = o;
  sorted = s;
  has = λ x c stands. by_value x stands (value_in changes x) refl;
  stands = λ x v there. (are.changed x v there).0;
})
  where
    by_value : (x : Item) → is_of_gone after x ≡ false → (found : Option ItemValue) → value_in changes x ≡ found → unwrap_or found (at before x) ≡ at after x
    by_value x stands None e = sym (are.unchanged x e stands)
    by_value x stands (Some v) e = sym (are.changed x v e).1
