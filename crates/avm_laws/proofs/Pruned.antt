-- That the writes of a call, without those that change nothing, are its changes.
use Rattle.std.proofs.Common.{◌≡◌, Bool, true, false, cond, [], ◌∷◌, Option, None, Some, refl, sym, ap, ◌∙◌, eq-eqb}
use Rattle.std.specs.Prelude.{◌==◌, ◌&&◌, not, unwrap_or}
use Rattle.std.specs.Ordering.{is_eq}
use Rattle.std.specs.List.{AllByRecursion}
use Rattle.std.specs.List.Sorted.{IsStrictlySortedBy}
use Rattle.std.specs.Map.{keys_of}
use Rattle.std.specs.declared.cmp.Ordering.TheVariants.{Less}
use Rattle.std.specs.Cmp.Lexicographic.{pointwise}
use Rattle.std.proofs.lemmas.Bool.{eqb-true, and_parts}
use Rattle.std.proofs.lemmas.Slice.Eq.{bytes_eq-Decides}
use Rattle.teal_value.specs.SameValues.{are_same_bytes}
use Rattle.teal_value.specs.SameValueLaws.{is_same-Decides}
use Rattle.avm_ledger.specs.declared.application.Application.{Application}
use Rattle.avm_states.specs.declared.schema.Schema.{Schema}
use Rattle.avm_states.specs.Entries.{is_same_entry}
use Rattle.avm_ledger.specs.Ledgers.{Ledger, IsInOrder}
use Rattle.avm_ledger.proofs.Changes.{address_is}
use Rattle.avm_states.proofs.Maps.{is_Equal, above_tied, below_none}
use Rattle.avm_states.proofs.SameStates.{states-Decides}
use Rattle.avm_items.specs.declared.item.Item.{Item}
use Rattle.avm_items.specs.declared.item_value.ItemValue.{ItemValue}
use Rattle.avm_items.specs.declared.item_value.ItemValue.TheVariants as value
use Rattle.avm_items.specs.Items.{ItemMap, Look, IsInItemOrder, item_cmp, value_in}
use Rattle.avm_items.specs.SameValues.{is_same_schema, is_same_application, is_same_value}
use Rattle.avm_items.specs.LedgerItems.{at, put, AreChanges, pruned}
use Rattle.avm_items.proofs.Puts.{item_total}
use Rattle.avm_laws.proofs.Given.{item_same, put_gives, puts_changes}
use Rattle.avm_laws.proofs.FollowedCalls.{Leaves, sorted_filter}

-- ---- the test of two values answers true exactly where they are equal

same_schema : (s t : Schema) → is_same_schema s t ≡ true → s ≡ t
same_schema s t e =
    let parts = and_parts (s.uints == t.uints) (s.bytes == t.bytes) e in
    let uints = eqb-true s.uints t.uints parts.0 in
    let bytes = eqb-true s.bytes t.bytes parts.1 in
    λ i. record { uints = uints i; bytes = bytes i }

schema_itself : (s : Schema) → is_same_schema s s ≡ true
schema_itself s = λ i. eq-eqb s.uints s.uints refl i && eq-eqb s.bytes s.bytes refl i

same_application : (a b : Application) → is_same_application a b ≡ true → a ≡ b
same_application a b e =
    let local = and_parts _ (is_same_schema a.local_schema b.local_schema) e in
    let global = and_parts _ (is_same_schema a.global_schema b.global_schema) local.0 in
    let clear = and_parts _ (are_same_bytes a.clear b.clear) global.0 in
    let approval = and_parts (are_same_bytes a.creator.0 b.creator.0) (are_same_bytes a.approval b.approval) clear.0 in
    let creator = address_is a.creator b.creator ((bytes_eq-Decides a.creator.0 b.creator.0).0 approval.0) in
    let p = (bytes_eq-Decides a.approval b.approval).0 approval.1 in
    let q = (bytes_eq-Decides a.clear b.clear).0 clear.1 in
    let g = same_schema a.global_schema b.global_schema global.1 in
    let l = same_schema a.local_schema b.local_schema local.1 in
    λ i. record { creator = creator i; approval = p i; clear = q i; global_schema = g i; local_schema = l i }

application_itself : (a : Application) → is_same_application a a ≡ true
application_itself a =
    let creator = (bytes_eq-Decides a.creator.0 a.creator.0).1 refl in
    let p = (bytes_eq-Decides a.approval a.approval).1 refl in
    let q = (bytes_eq-Decides a.clear a.clear).1 refl in
    λ i. creator i && p i && q i && schema_itself a.global_schema i && schema_itself a.local_schema i

pub same_value : (u v : ItemValue) → is_same_value u v ≡ true → u ≡ v
same_value value.Absent value.Absent e = refl
same_value (value.NextApp n) (value.NextApp m) e = ap value.NextApp (eqb-true n m e)
same_value (value.App a) (value.App b) e = ap value.App (same_application a b e)
same_value (value.Counts s) (value.Counts t) e = ap value.Counts (same_schema s t e)
same_value (value.Key v) (value.Key w) e = ap value.Key ((is_same-Decides v w).0 e)
same_value (value.Local s) (value.Local t) e = ap value.Local ((states-Decides s t (pointwise is_same_entry s t) refl).0 e)
same_value u v e = absurd cc

pub value_itself : (v : ItemValue) → is_same_value v v ≡ true
value_itself value.Absent = refl
value_itself (value.NextApp n) = eq-eqb n n refl
value_itself (value.App a) = application_itself a
value_itself (value.Counts s) = schema_itself s
value_itself (value.Key v) = (is_same-Decides v v).1 refl
value_itself (value.Local s) = (states-Decides s s (pointwise is_same_entry s s) refl).1 refl

-- ---- the pruned writes

abbrev prune : ItemValue → Option ItemValue → Option ItemValue
prune before None = None
prune before (Some v) = cond (is_same_value before v) None (Some v)

pruned_by : (look : Look) (e : Item × ItemValue) (es fs : ItemMap) (x : Item) → AllByRecursion (λ y. item_cmp e.0 y ≡ Less) (keys_of es) → value_in fs x ≡ prune (look x) (value_in es x)
    → (t s : Bool) → is_eq (item_cmp x e.0) ≡ t → is_same_value (look e.0) e.1 ≡ s → value_in (cond (not s) (e ∷ fs) fs) x ≡ prune (look x) (cond t (Some e.1) (value_in es x))
pruned_by look e es fs x below rest true true tied same =
    let none : value_in es x ≡ None = below_none item_total x es (above_tied item_total x e.0 (keys_of es) (is_Equal (item_cmp x e.0) tied) below) in
    rest ∙ ap (prune (look x)) none ∙ sym (ap (λ b. cond b None (Some e.1)) (ap (λ y. is_same_value (look y) e.1) (item_same x e.0 tied) ∙ same))
pruned_by look e es fs x below rest true false tied differs =
    ap (λ b. cond b (Some e.1) (value_in fs x)) tied ∙ sym (ap (λ b. cond b None (Some e.1)) (ap (λ y. is_same_value (look y) e.1) (item_same x e.0 tied) ∙ differs))
pruned_by look e es fs x below rest false true apart same = rest
pruned_by look e es fs x below rest false false apart differs = ap (λ b. cond b (Some e.1) (value_in fs x)) apart ∙ rest

value_pruned : (look : Look) (w : ItemMap) → IsInItemOrder w → (x : Item) → value_in (pruned look w) x ≡ prune (look x) (value_in w x)
unfolding IsStrictlySortedBy
value_pruned look [] s x = refl
value_pruned look (e ∷ es) s x = pruned_by look e es (pruned look es) x s.0 (value_pruned look es s.1 x) (is_eq (item_cmp x e.0)) (is_same_value (look e.0) e.1) refl refl

-- ---- what a call leaves

kept_same : (before : ItemValue) (o : Option ItemValue) → prune before o ≡ None → unwrap_or o before ≡ before
kept_same before None e = refl
kept_same before (Some v) e = by (is_same_value before v) refl e
  where
    by : (b : Bool) → is_same_value before v ≡ b → cond b None (Some v) ≡ None → v ≡ before
    by true same e = sym (same_value before v same)
    by false differs e = absurd cc

kept_other : (before : ItemValue) (o : Option ItemValue) (v : ItemValue) → prune before o ≡ Some v → (o ≡ Some v) × (before ≡ v → ⊥)
kept_other before None v e = absurd cc
kept_other before (Some u) v e = by (is_same_value before u) refl e
  where
    by : (b : Bool) → is_same_value before u ≡ b → cond b None (Some u) ≡ Some v → (Some u ≡ Some v) × (before ≡ v → ⊥)
    by true same e = absurd cc
    by false differs e = (
      e,
      λ same.
          let is : u ≡ v = cc in
          let yes : is_same_value before u ≡ true = ap (λ z. is_same_value z u) (same ∙ sym is) ∙ value_itself u in
          let no : true ≡ false = sym yes ∙ differs in
          absurd cc,
    )

-- the writes without those that change nothing are the changes to the ledger that is left
pub are_changes : (l : Ledger) (K : Ledger → Type 0) (w : ItemMap) (left : Leaves l K w) → AreChanges l left.ledger (pruned (at l) w)
are_changes l K w left = record {
  unchanged = λ x none stands. left.has x stands ∙ kept_same (at l x) (value_in w x) (sym (value_pruned (at l) w left.sorted x) ∙ none);
  changed = λ x v there.
      let kept = kept_other (at l x) (value_in w x) v (sym (value_pruned (at l) w left.sorted x) ∙ there) in
      let stands = left.stands x v kept.0 in
      (stands, left.has x stands ∙ ap (λ o. unwrap_or o (at l x)) kept.0, kept.1);
}

-- those writes, put into the ledger before, give the ledger that is left
pub put_pruned : (l : Ledger) (K : Ledger → Type 0) (w : ItemMap) → IsInOrder l → (left : Leaves l K w) → put l (pruned (at l) w) ≡ left.ledger
put_pruned l K w o left =
    puts_changes l left.ledger (pruned (at l) w) o left.order (sorted_filter (λ e. not (is_same_value (at l e.0) e.1)) w left.sorted) (are_changes l K w left)

-- all the writes, put into the ledger before, give the ledger that is left
pub put_written : (l : Ledger) (K : Ledger → Type 0) (w : ItemMap) → IsInOrder l → (left : Leaves l K w) → put l w ≡ left.ledger
put_written l K w o left = put_gives l left.ledger w left.order (record { order = o; sorted = left.sorted; has = λ x c stands. sym (left.has x stands); stands = left.stands })
