-- That the order in which items are put does not matter.
use Rattle.std.proofs.Common.{◌≡◌, ℕ, Bool, true, false, List, [], ◌∷◌, None, Some, refl, sym, ap, ◌∙◌, cond}
use Rattle.std.specs.Prelude.{◌||◌, is_none, unwrap_or}
use Rattle.std.specs.Ordering.{is_eq}
use Rattle.std.specs.List.{AllByRecursion}
use Rattle.std.specs.Map.{keys_of}
use Rattle.std.specs.Cmp.{tied_itself}
use Rattle.std.proofs.lemmas.Bool.{eqb-true, or_parts}
use Rattle.avm_ledger.specs.Ledgers.{Ledger, application_at, IsInOrder}
use Rattle.avm_items.specs.declared.item.Item.{Item}
use Rattle.avm_items.specs.declared.item.Item.TheVariants as item
use Rattle.avm_items.specs.declared.item_value.ItemValue.{ItemValue}
use Rattle.avm_items.specs.declared.item_value.ItemValue.TheVariants as value
use Rattle.avm_items.specs.Items.{item_cmp, value_in}
use Rattle.avm_items.specs.LedgerItems.{at, put_one, put, is_of_gone}
use Rattle.avm_items.specs.PutLaws.{is_counts, deletes, is_deleted_by, MayPutAll}
use Rattle.avm_items.proofs.Puts.{stays_in_order, item_total}
use Rattle.avm_rule_laws.specs.PutOrder.{AreDistinct}
use Rattle.avm_laws.proofs.Given.{gone_row, has_all, item_same, one_put}

-- ---- an item that stands once

none_tied : (x : Item) (es : List (Item × ItemValue)) → AllByRecursion (λ y. is_eq (item_cmp x y) ≡ false) (keys_of es) → value_in es x ≡ None
none_tied x [] h = refl
none_tied x (e ∷ es) h = ap (λ b. cond b (Some e.1) (value_in es x)) h.0 ∙ none_tied x es h.1

once : (e : Item × ItemValue) (es : List (Item × ItemValue)) (x : Item) → AreDistinct (e ∷ es) → is_eq (item_cmp x e.0) ≡ true → value_in es x ≡ None
once e es x d tied = ap (value_in es) (item_same x e.0 tied) ∙ none_tied e.0 es d.0

-- ---- after many puts

rest_by : (e : Item × ItemValue) (es : List (Item × ItemValue)) (x : Item) (v : ItemValue) → AreDistinct (e ∷ es) → (b : Bool) → is_eq (item_cmp x e.0) ≡ b
    → unwrap_or (value_in es x) (unwrap_or (cond b (Some e.1) None) v) ≡ unwrap_or (cond b (Some e.1) (value_in es x)) v
rest_by e es x v d true tied = ap (λ found. unwrap_or found e.1) (once e es x d tied)
rest_by e es x v d false apart = refl

-- an item that no put takes away
put_value : (l : Ledger) (items : List (Item × ItemValue)) (x : Item) → IsInOrder l → AreDistinct items → MayPutAll l items → is_counts x ≡ false → is_deleted_by items x ≡ false
    → at (put l items) x ≡ unwrap_or (value_in items x) (at l x)
put_value l [] x o d m c n = refl
put_value l (e ∷ es) x o d m c n =
    let none = or_parts (deletes e.0 e.1 x) (is_deleted_by es x) n in
    put_value (put_one l e.0 e.1) es x (stays_in_order l e.0 e.1 o) d.1 m.1 c none.1
    ∙ ap (unwrap_or (value_in es x)) (one_put l e x o m.0 c none.0)
    ∙ rest_by e es x (at l x) d (is_eq (item_cmp x e.0)) refl

put_in_order : (l : Ledger) (items : List (Item × ItemValue)) → IsInOrder l → IsInOrder (put l items)
put_in_order l [] o = o
put_in_order l (e ∷ es) o = put_in_order (put_one l e.0 e.1) es (stays_in_order l e.0 e.1 o)

-- ---- keys that go with their application

found_later : (e : Item × ItemValue) (es : List (Item × ItemValue)) (x : Item) (v : ItemValue) → AreDistinct (e ∷ es) → value_in es x ≡ Some v → (b : Bool) → is_eq (item_cmp x e.0) ≡ b → cond b (Some e.1) (value_in es x) ≡ Some v
found_later e es x v d there true tied = let no : None ≡ Some v = sym (once e es x d tied) ∙ there in absurd cc
found_later e es x v d there false apart = there

taken_by : (e : Item × ItemValue) (es : List (Item × ItemValue)) (id : ℕ) → (is_eq (item_cmp (item.App id) e.0) ≡ true) × (e.1 ≡ value.Absent) → value_in (e ∷ es) (item.App id) ≡ Some value.Absent
taken_by e es id (tied, gone) = ap (λ t. cond t (Some e.1) (value_in es (item.App id))) tied ∙ ap Some gone

deletes_its : (x : Item) (v : ItemValue) (id : ℕ) (key : List ℕ) → deletes x v (item.Key id key) ≡ true → (is_eq (item_cmp (item.App id) x) ≡ true) × (v ≡ value.Absent)
deletes_its (item.App other) value.Absent id key e =
    (ap (λ n. is_eq (item_cmp (item.App id) (item.App n))) (sym (eqb-true id other e)) ∙ ap is_eq (tied_itself item_total (item.App id)), refl)
deletes_its (item.App other) (value.App row) id key e = absurd cc
deletes_its (item.App other) (value.NextApp n) id key e = absurd cc
deletes_its (item.App other) (value.Counts n) id key e = absurd cc
deletes_its (item.App other) (value.Key v) id key e = absurd cc
deletes_its (item.App other) (value.Local s) id key e = absurd cc
deletes_its item.NextApp v id key e = absurd cc
deletes_its (item.Counts other) v id key e = absurd cc
deletes_its (item.Key other k) v id key e = absurd cc
deletes_its (item.Local who other) v id key e = absurd cc

deleted_is_gone : (items : List (Item × ItemValue)) (id : ℕ) (key : List ℕ) → AreDistinct items → is_deleted_by items (item.Key id key) ≡ true → value_in items (item.App id) ≡ Some value.Absent
deleted_is_gone [] id key d h = absurd cc
deleted_is_gone (e ∷ es) id key d h = by (deletes e.0 e.1 (item.Key id key)) refl h (deleted_is_gone es id key d.1)
  where
    by : (b : Bool) → deletes e.0 e.1 (item.Key id key) ≡ b → (b || is_deleted_by es (item.Key id key)) ≡ true → (is_deleted_by es (item.Key id key) ≡ true → value_in es (item.App id) ≡ Some value.Absent)
        → value_in (e ∷ es) (item.App id) ≡ Some value.Absent
    by true is t later = taken_by e es id (deletes_its e.0 e.1 id key is)
    by false is t later = found_later e es (item.App id) value.Absent d (later t) (is_eq (item_cmp (item.App id) e.0)) refl

never_row : (items : List (Item × ItemValue)) (id : ℕ) → is_deleted_by items (item.App id) ≡ false
never_row [] id = refl
never_row (e ∷ es) id = ap (λ b. b || is_deleted_by es (item.App id)) (no e.0 e.1) ∙ never_row es id
  where
    no : (x : Item) (v : ItemValue) → deletes x v (item.App id) ≡ false
    no (item.App other) value.Absent = refl
    no x v = refl

not_key : (items : List (Item × ItemValue)) (x : Item) → ((id : ℕ) (key : List ℕ) → x ≡ item.Key id key → ⊥) → is_deleted_by items x ≡ false
not_key [] x n = refl
not_key (e ∷ es) x n = ap (λ b. b || is_deleted_by es x) (no e.0 e.1 x n) ∙ not_key es x n
  where
    no : (y : Item) (v : ItemValue) (x : Item) → ((id : ℕ) (key : List ℕ) → x ≡ item.Key id key → ⊥) → deletes y v x ≡ false
    no (item.App other) value.Absent (item.Key id key) n = absurd (n id key refl)
    no y v x n = refl

-- ---- both orders

-- a key of an application that stands after the puts is taken away by none
no_deletion : (l : Ledger) (items others : List (Item × ItemValue)) → IsInOrder l → AreDistinct items → AreDistinct others → ((x : Item) → value_in items x ≡ value_in others x) → MayPutAll l others
    → (id : ℕ) (key : List ℕ) → is_none (application_at (put l others) id) ≡ false → (b : Bool) → is_deleted_by items (item.Key id key) ≡ b → b ≡ false
no_deletion l items others o d e same m id key stands true is =
    let absent : value_in others (item.App id) ≡ Some value.Absent = sym (same (item.App id)) ∙ deleted_is_gone items id key d is in
    let gone : at (put l others) (item.App id) ≡ value.Absent =
    put_value l others (item.App id) o e m refl (never_row others id) ∙ ap (λ found. unwrap_or found (at l (item.App id))) absent in
    sym (gone_row (application_at (put l others) id) gone) ∙ stands
no_deletion l items others o d e same m id key stands false is = refl

same_at : (l : Ledger) (items others : List (Item × ItemValue)) → IsInOrder l → AreDistinct items → AreDistinct others → ((x : Item) → value_in items x ≡ value_in others x) → MayPutAll l items → MayPutAll l others
    → (x : Item) → is_counts x ≡ false → is_deleted_by items x ≡ false → is_deleted_by others x ≡ false → at (put l items) x ≡ at (put l others) x
same_at l items others o d e same m n x c p q =
    put_value l items x o d m c p ∙ ap (λ found. unwrap_or found (at l x)) (same x) ∙ sym (put_value l others x o e n c q)

-- the order in which items are put doesn't matter, as long as each may be put in its turn
pub any_order : (l : Ledger) (items others : List (Item × ItemValue)) → IsInOrder l → AreDistinct items → AreDistinct others → ((x : Item) → value_in items x ≡ value_in others x) → MayPutAll l items → MayPutAll l others → put l items ≡ put l others
any_order l items others o d e same m n = has_all (put l items) (put l others) (put_in_order l items o) (put_in_order l others o) has
  where
    has : (x : Item) → is_counts x ≡ false → is_of_gone (put l others) x ≡ false → at (put l items) x ≡ at (put l others) x
    has item.NextApp c stands = same_at l items others o d e same m n item.NextApp refl (not_key items item.NextApp (λ id key is. absurd cc)) (not_key others item.NextApp (λ id key is. absurd cc))
    has (item.App id) c stands = same_at l items others o d e same m n (item.App id) refl (never_row items id) (never_row others id)
    has (item.Counts id) c stands = absurd cc
    has (item.Key id key) c stands =
        same_at l items others o d e same m n (item.Key id key) refl
        (no_deletion l items others o d e same n id key stands (is_deleted_by items (item.Key id key)) refl)
        (no_deletion l others others o e e (λ x. refl) n id key stands (is_deleted_by others (item.Key id key)) refl)
    has (item.Local who id) c stands = same_at l items others o d e same m n (item.Local who id) refl (not_key items (item.Local who id) (λ i key is. absurd cc)) (not_key others (item.Local who id) (λ i key is. absurd cc))
