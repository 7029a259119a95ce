-- Finite maps as entries by rising key: what is found after an insertion and after a removal, that both keep the order,
-- and that two maps that answer alike are one.
use Rattle.std.proofs.Common.{◌≡◌, Bool, true, false, List, [], ◌∷◌, Option, None, Some, refl, sym, ap, ◌∙◌, subst, cond}
use Rattle.std.proofs.lemmas.Map.Steps.{set_value_same}
use Rattle.std.specs.Ordering.{is_eq, match_ordering, ordering_reverse}
use Rattle.std.specs.declared.cmp.Ordering.{Ordering}
use Rattle.std.specs.declared.cmp.Ordering.TheVariants.{Less, Equal, Greater}
use Rattle.std.specs.Cmp.{IsTotalOrder, alike_right, tied_back, tied_itself}
use Rattle.std.specs.Map.{lookup, remove_entry, set_value, keys_of}
use Rattle.std.specs.BTreeMap.{insert_entry, is_at}
use Rattle.std.specs.List.{AllByRecursion}
use Rattle.std.specs.List.Sorted.{IsStrictlySortedBy}

pub is_Equal : (r : Ordering) → is_eq r ≡ true → r ≡ Equal
is_Equal Less e = absurd cc
is_Equal Equal e = refl
is_Equal Greater e = absurd cc

module _ {K : Type 0} {R : K → K → Ordering} (o : IsTotalOrder R) where
  -- what stands above x stands above a key that ties with it, and above one below it
  pub above_tied : (k x : K) (ks : List K) → R k x ≡ Equal → AllByRecursion (λ y. R x y ≡ Less) ks → AllByRecursion (λ y. R k y ≡ Less) ks
  above_tied k x [] p h = tt
  above_tied k x (y ∷ ks) p h = (o.congr k x y p ∙ h.0, above_tied k x ks p h.1)

  pub all_below : (x k : K) (ks : List K) → R x k ≡ Less → AllByRecursion (λ y. R k y ≡ Less) ks → AllByRecursion (λ y. R x y ≡ Less) ks
  all_below x k [] p h = tt
  all_below x k (y ∷ ks) p h = (o.trans x k y p h.0, all_below x k ks p h.1)

  turned_by : (r : Ordering) → Greater ≡ ordering_reverse r → r ≡ Less
  turned_by Less e = refl
  turned_by Equal e = absurd cc
  turned_by Greater e = absurd cc

  turned : (k x : K) → R k x ≡ Greater → R x k ≡ Less
  turned k x p = turned_by (R x k) (sym p ∙ o.antisymm k x)

  not_both : {P : Type 0} (q k x : K) → is_eq (R k x) ≡ false → is_eq (R q k) ≡ true → is_eq (R q x) ≡ true → P
  not_both q k x n a b =
      let tied : R k x ≡ Equal = sym (o.congr q k x (is_Equal (R q k) a)) ∙ is_Equal (R q x) b in
      let t : is_eq (R k x) ≡ true = ap is_eq tied in
      absurd cc

module _ {K X : Type 0} {R : K → K → Ordering} (o : IsTotalOrder R) where
  -- ---- after an insertion

  same_by : (k : K) (v : X) (e : K × X) (es : List (K × X)) → lookup (is_at (R k)) (insert_entry R es k v) ≡ Some v → (r : Ordering) → R k e.0 ≡ r
      → lookup (is_at (R k)) (match_ordering r ((k, v) ∷ e ∷ es) ((e.0, v) ∷ es) (e ∷ insert_entry R es k v)) ≡ Some v
  same_by k v e es h Less p = ap (λ s. cond (is_eq s) (Some v) (lookup (is_at (R k)) (e ∷ es))) (tied_itself o k)
  same_by k v e es h Equal p = ap (λ s. cond (is_eq s) (Some v) (lookup (is_at (R k)) es)) p
  same_by k v e es h Greater p = ap (λ s. cond (is_eq s) (Some e.1) (lookup (is_at (R k)) (insert_entry R es k v))) p ∙ h

  pub lookup-inserted : (k : K) (v : X) (es : List (K × X)) → lookup (is_at (R k)) (insert_entry R es k v) ≡ Some v
  lookup-inserted k v [] = ap (λ s. cond (is_eq s) (Some v) None) (tied_itself o k)
  lookup-inserted k v (e ∷ es) = same_by k v e es (lookup-inserted k v es) (R k e.0) refl

  other_by : (q k : K) (v : X) (e : K × X) (es : List (K × X)) → is_eq (R q k) ≡ false
      → lookup (is_at (R q)) (insert_entry R es k v) ≡ lookup (is_at (R q)) es → (r : Ordering) → R k e.0 ≡ r
      → lookup (is_at (R q)) (match_ordering r ((k, v) ∷ e ∷ es) ((e.0, v) ∷ es) (e ∷ insert_entry R es k v)) ≡ lookup (is_at (R q)) (e ∷ es)
  other_by q k v e es n h Less p = ap (λ b. cond b (Some v) (lookup (is_at (R q)) (e ∷ es))) n
  other_by q k v e es n h Equal p =
      let m : is_eq (R q e.0) ≡ false = ap is_eq (sym (alike_right o k e.0 q p)) ∙ n in
      ap (λ b. cond b (Some v) (lookup (is_at (R q)) es)) m ∙ sym (ap (λ b. cond b (Some e.1) (lookup (is_at (R q)) es)) m)
  other_by q k v e es n h Greater p = ap (λ found. cond (is_eq (R q e.0)) (Some e.1) found) h

  pub lookup-inserted_other : (q k : K) (v : X) (es : List (K × X)) → is_eq (R q k) ≡ false → lookup (is_at (R q)) (insert_entry R es k v) ≡ lookup (is_at (R q)) es
  lookup-inserted_other q k v [] n = ap (λ b. cond b (Some v) None) n
  lookup-inserted_other q k v (e ∷ es) n = other_by q k v e es n (lookup-inserted_other q k v es n) (R k e.0) refl

  -- ---- after a removal

  -- a key that is below all others is not found
  pub below_none : (k : K) (es : List (K × X)) → AllByRecursion (λ y. R k y ≡ Less) (keys_of es) → lookup (is_at (R k)) es ≡ None
  below_none k [] h = refl
  below_none k (e ∷ es) h = ap (λ s. cond (is_eq s) (Some e.1) (lookup (is_at (R k)) es)) h.0 ∙ below_none k es h.1

  removed_by : (k : K) (e : K × X) (es : List (K × X)) → AllByRecursion (λ y. R e.0 y ≡ Less) (keys_of es)
      → lookup (is_at (R k)) (remove_entry (is_at (R k)) es) ≡ None → (b : Bool) → is_eq (R k e.0) ≡ b
      → lookup (is_at (R k)) (cond b es (e ∷ remove_entry (is_at (R k)) es)) ≡ None
  removed_by k e es below h true p = below_none k es (above_tied o k e.0 (keys_of es) (is_Equal (R k e.0) p) below)
  removed_by k e es below h false p = ap (λ b. cond b (Some e.1) (lookup (is_at (R k)) (remove_entry (is_at (R k)) es))) p ∙ h

  pub lookup-removed : (k : K) (es : List (K × X)) → IsStrictlySortedBy R (keys_of es) → lookup (is_at (R k)) (remove_entry (is_at (R k)) es) ≡ None
  unfolding IsStrictlySortedBy
  lookup-removed k [] s = refl
  lookup-removed k (e ∷ es) s = removed_by k e es s.0 (lookup-removed k es s.1) (is_eq (R k e.0)) refl

  kept_by : (q k : K) (e : K × X) (es : List (K × X)) → is_eq (R q k) ≡ false
      → lookup (is_at (R q)) (remove_entry (is_at (R k)) es) ≡ lookup (is_at (R q)) es → (b : Bool) → is_eq (R k e.0) ≡ b
      → lookup (is_at (R q)) (cond b es (e ∷ remove_entry (is_at (R k)) es)) ≡ lookup (is_at (R q)) (e ∷ es)
  kept_by q k e es n h true p =
      let m : is_eq (R q e.0) ≡ false = ap is_eq (sym (alike_right o k e.0 q (is_Equal (R k e.0) p))) ∙ n in
      sym (ap (λ b. cond b (Some e.1) (lookup (is_at (R q)) es)) m)
  kept_by q k e es n h false p = ap (λ found. cond (is_eq (R q e.0)) (Some e.1) found) h

  pub lookup-removed_other : (q k : K) (es : List (K × X)) → is_eq (R q k) ≡ false → lookup (is_at (R q)) (remove_entry (is_at (R k)) es) ≡ lookup (is_at (R q)) es
  lookup-removed_other q k [] n = refl
  lookup-removed_other q k (e ∷ es) n = kept_by q k e es n (lookup-removed_other q k es n) (is_eq (R k e.0)) refl

  -- ---- the order stays

  below_inserted_by : (x k : K) (v : X) (e : K × X) (es : List (K × X)) → R x k ≡ Less → R x e.0 ≡ Less → AllByRecursion (λ y. R x y ≡ Less) (keys_of es)
      → AllByRecursion (λ y. R x y ≡ Less) (keys_of (insert_entry R es k v)) → (r : Ordering)
      → AllByRecursion (λ y. R x y ≡ Less) (keys_of (match_ordering r ((k, v) ∷ e ∷ es) ((e.0, v) ∷ es) (e ∷ insert_entry R es k v)))
  below_inserted_by x k v e es p pe a h Less = (p, (pe, a))
  below_inserted_by x k v e es p pe a h Equal = (pe, a)
  below_inserted_by x k v e es p pe a h Greater = (pe, h)

  below_inserted : (x k : K) (v : X) (es : List (K × X)) → R x k ≡ Less → AllByRecursion (λ y. R x y ≡ Less) (keys_of es) → AllByRecursion (λ y. R x y ≡ Less) (keys_of (insert_entry R es k v))
  below_inserted x k v [] p h = (p, tt)
  below_inserted x k v (e ∷ es) p h = below_inserted_by x k v e es p h.0 h.1 (below_inserted x k v es p h.1) (R k e.0)

  sorted_by : (k : K) (v : X) (e : K × X) (es : List (K × X)) → AllByRecursion (λ y. R e.0 y ≡ Less) (keys_of es) → IsStrictlySortedBy R (keys_of es)
      → IsStrictlySortedBy R (keys_of (insert_entry R es k v)) → (r : Ordering) → R k e.0 ≡ r
      → IsStrictlySortedBy R (keys_of (match_ordering r ((k, v) ∷ e ∷ es) ((e.0, v) ∷ es) (e ∷ insert_entry R es k v)))
  unfolding IsStrictlySortedBy
  sorted_by k v e es below s h Less p = ((p, all_below o k e.0 (keys_of es) p below), (below, s))
  sorted_by k v e es below s h Equal p = (below, s)
  sorted_by k v e es below s h Greater p = (below_inserted e.0 k v es (turned o k e.0 p) below, h)

  pub sorted-inserted : (k : K) (v : X) (es : List (K × X)) → IsStrictlySortedBy R (keys_of es) → IsStrictlySortedBy R (keys_of (insert_entry R es k v))
  unfolding IsStrictlySortedBy
  sorted-inserted k v [] s = (tt, tt)
  sorted-inserted k v (e ∷ es) s = sorted_by k v e es s.0 s.1 (sorted-inserted k v es s.1) (R k e.0) refl

  below_removed_by : (x k : K) (e : K × X) (es : List (K × X)) → R x e.0 ≡ Less → AllByRecursion (λ y. R x y ≡ Less) (keys_of es)
      → AllByRecursion (λ y. R x y ≡ Less) (keys_of (remove_entry (is_at (R k)) es)) → (b : Bool)
      → AllByRecursion (λ y. R x y ≡ Less) (keys_of (cond b es (e ∷ remove_entry (is_at (R k)) es)))
  below_removed_by x k e es p a h true = a
  below_removed_by x k e es p a h false = (p, h)

  below_removed : (x k : K) (es : List (K × X)) → AllByRecursion (λ y. R x y ≡ Less) (keys_of es) → AllByRecursion (λ y. R x y ≡ Less) (keys_of (remove_entry (is_at (R k)) es))
  below_removed x k [] h = tt
  below_removed x k (e ∷ es) h = below_removed_by x k e es h.0 h.1 (below_removed x k es h.1) (is_eq (R k e.0))

  sorted_removed_by : (k : K) (e : K × X) (es : List (K × X)) → AllByRecursion (λ y. R e.0 y ≡ Less) (keys_of es) → IsStrictlySortedBy R (keys_of es)
      → IsStrictlySortedBy R (keys_of (remove_entry (is_at (R k)) es)) → (b : Bool)
      → IsStrictlySortedBy R (keys_of (cond b es (e ∷ remove_entry (is_at (R k)) es)))
  unfolding IsStrictlySortedBy
  sorted_removed_by k e es below s h true = s
  sorted_removed_by k e es below s h false = (below_removed e.0 k es below, h)

  pub sorted-removed : (k : K) (es : List (K × X)) → IsStrictlySortedBy R (keys_of es) → IsStrictlySortedBy R (keys_of (remove_entry (is_at (R k)) es))
  unfolding IsStrictlySortedBy
  sorted-removed k [] s = tt
  sorted-removed k (e ∷ es) s = sorted_removed_by k e es s.0 s.1 (sorted-removed k es s.1) (is_eq (R k e.0))

  -- ---- two maps that answer alike are one

  first_found : (e : K × X) (es : List (K × X)) → lookup (is_at (R e.0)) (e ∷ es) ≡ Some e.1
  first_found e es = ap (λ s. cond (is_eq s) (Some e.1) (lookup (is_at (R e.0)) es)) (tied_itself o e.0)

  below_first_none : (k : K) (e : K × X) (es : List (K × X)) → R k e.0 ≡ Less → AllByRecursion (λ y. R e.0 y ≡ Less) (keys_of es) → lookup (is_at (R k)) (e ∷ es) ≡ None
  below_first_none k e es p h = below_none k (e ∷ es) (p, all_below o k e.0 (keys_of es) p h)

  Alike : List (K × X) → List (K × X) → Type 0
  Alike es fs = (q : K) → lookup (is_at (R q)) es ≡ lookup (is_at (R q)) fs

  rest_by : (q : K) (e f : K × X) (es fs : List (K × X)) → R e.0 f.0 ≡ Equal → AllByRecursion (λ y. R e.0 y ≡ Less) (keys_of es) → AllByRecursion (λ y. R f.0 y ≡ Less) (keys_of fs)
      → lookup (is_at (R q)) (e ∷ es) ≡ lookup (is_at (R q)) (f ∷ fs) → (b : Bool) → is_eq (R q e.0) ≡ b → lookup (is_at (R q)) es ≡ lookup (is_at (R q)) fs
  rest_by q e f es fs p below above alike true is =
      let t = is_Equal (R q e.0) is in
      below_none q es (above_tied o q e.0 (keys_of es) t below)
      ∙ sym (below_none q fs (above_tied o q f.0 (keys_of fs) (sym (alike_right o e.0 f.0 q p) ∙ t) above))
  rest_by q e f es fs p below above alike false is =
      let not : is_eq (R q f.0) ≡ false = ap is_eq (sym (alike_right o e.0 f.0 q p)) ∙ is in
      sym (ap (λ b. cond b (Some e.1) (lookup (is_at (R q)) es)) is) ∙ alike ∙ ap (λ b. cond b (Some f.1) (lookup (is_at (R q)) fs)) not

  some_inj : {a b : X} → Some a ≡ Some b → a ≡ b
  some_inj e = cc

  heads_by : (same : (x y : K) → R x y ≡ Equal → x ≡ y) (e f : K × X) (es fs : List (K × X)) → AllByRecursion (λ y. R e.0 y ≡ Less) (keys_of es) → AllByRecursion (λ y. R f.0 y ≡ Less) (keys_of fs)
      → Alike (e ∷ es) (f ∷ fs) → (Alike es fs → es ≡ fs) → (r : Ordering) → R e.0 f.0 ≡ r → e ∷ es ≡ f ∷ fs
  unfolding Alike
  heads_by same e f es fs below above alike next Less p =
      let some = sym (first_found e es) ∙ alike e.0 ∙ below_first_none e.0 f fs p above in absurd cc
  heads_by same e f es fs below above alike next Equal p =
      let keys = same e.0 f.0 p in
      let tied : R f.0 e.0 ≡ Equal = tied_back o e.0 f.0 p in
      let values = some_inj (sym (first_found e es) ∙ alike e.0 ∙ ap (λ s. cond (is_eq s) (Some f.1) (lookup (is_at (R e.0)) fs)) p) in
      let rest = next (λ q. rest_by q e f es fs p below above (alike q) (is_eq (R q e.0)) refl) in
      λ i. (keys i, values i) ∷ rest i
  heads_by same e f es fs below above alike next Greater p =
      let some = sym (first_found f fs) ∙ sym (alike f.0) ∙ below_first_none f.0 e es (turned o e.0 f.0 p) below in absurd cc

  pub same_map : ((x y : K) → R x y ≡ Equal → x ≡ y) → (es fs : List (K × X)) → IsStrictlySortedBy R (keys_of es) → IsStrictlySortedBy R (keys_of fs)
      → ((q : K) → lookup (is_at (R q)) es ≡ lookup (is_at (R q)) fs) → es ≡ fs
  unfolding IsStrictlySortedBy Alike
  same_map same [] [] s t alike = refl
  same_map same [] (f ∷ fs) s t alike = let some = sym (first_found f fs) ∙ sym (alike f.0) in absurd cc
  same_map same (e ∷ es) [] s t alike = let some = sym (first_found e es) ∙ alike e.0 in absurd cc
  same_map same (e ∷ es) (f ∷ fs) s t alike = heads_by same e f es fs s.0 t.0 alike (same_map same es fs s.1 t.1) (R e.0 f.0) refl

  -- ---- a value written at a key that is there

  written_by : (k : K) (v old : X) (e : K × X) (es : List (K × X)) → AllByRecursion (λ y. R e.0 y ≡ Less) (keys_of es)
      → (lookup (is_at (R k)) es ≡ Some old → set_value (is_at (R k)) es v ≡ insert_entry R es k v) → (r : Ordering) → R k e.0 ≡ r
      → cond (is_eq r) (Some e.1) (lookup (is_at (R k)) es) ≡ Some old
      → cond (is_eq r) ((e.0, v) ∷ es) (e ∷ set_value (is_at (R k)) es v) ≡ match_ordering r ((k, v) ∷ e ∷ es) ((e.0, v) ∷ es) (e ∷ insert_entry R es k v)
  written_by k v old e es below h Less p found = let none = below_none k es (all_below o k e.0 (keys_of es) p below) in absurd cc
  written_by k v old e es below h Equal p found = refl
  written_by k v old e es below h Greater p found = ap (λ rest. e ∷ rest) (h found)

  pub set_value-there : (k : K) (v old : X) (es : List (K × X)) → IsStrictlySortedBy R (keys_of es) → lookup (is_at (R k)) es ≡ Some old
      → set_value (is_at (R k)) es v ≡ insert_entry R es k v
  unfolding IsStrictlySortedBy
  set_value-there k v old [] s found = absurd cc
  set_value-there k v old (e ∷ es) s found = written_by k v old e es s.0 (set_value-there k v old es s.1) (R k e.0) refl found

-- Where keys that tie are the same, what a change leaves is found at each key by a test of that key, and two changes that
-- find alike are one.
module _ {K X : Type 0} {R : K → K → Ordering} (o : IsTotalOrder R) (same : (x y : K) → R x y ≡ Equal → x ≡ y) where
  found_inserted : (q k : K) (v : X) (es : List (K × X)) (b : Bool) → is_eq (R q k) ≡ b → lookup (is_at (R q)) (insert_entry R es k v) ≡ cond b (Some v) (lookup (is_at (R q)) es)
  found_inserted q k v es true p =
      let e : k ≡ q = sym (same q k (is_Equal (R q k) p)) in
      subst (λ z. lookup (is_at (R z)) (insert_entry R es k v) ≡ Some v) e (lookup-inserted o k v es)
  found_inserted q k v es false p = lookup-inserted_other o q k v es p

  found_removed : (q k : K) (es : List (K × X)) → IsStrictlySortedBy R (keys_of es) → (b : Bool) → is_eq (R q k) ≡ b
      → lookup (is_at (R q)) (remove_entry (is_at (R k)) es) ≡ cond b None (lookup (is_at (R q)) es)
  found_removed q k es s true p =
      let e : k ≡ q = sym (same q k (is_Equal (R q k) p)) in
      subst (λ z. lookup (is_at (R z)) (remove_entry (is_at (R k)) es) ≡ None) e (lookup-removed o k es s)
  found_removed q k es s false p = lookup-removed_other o q k es p

  inserted_twice : (q k : K) (v w : X) (es : List (K × X)) (b : Bool) → is_eq (R q k) ≡ b
      → cond b (Some w) (lookup (is_at (R q)) (insert_entry R es k v)) ≡ cond b (Some w) (lookup (is_at (R q)) es)
  inserted_twice q k v w es true p = refl
  inserted_twice q k v w es false p = found_inserted q k v es false p

  -- a second insertion at the same key replaces the first
  pub insert-insert_same : (k : K) (v w : X) (es : List (K × X)) → IsStrictlySortedBy R (keys_of es) → insert_entry R (insert_entry R es k v) k w ≡ insert_entry R es k w
  insert-insert_same k v w es s =
      same_map o same _ _ (sorted-inserted o k w _ (sorted-inserted o k v es s)) (sorted-inserted o k w es s)
      (λ q. found_inserted q k w (insert_entry R es k v) (is_eq (R q k)) refl ∙ inserted_twice q k v w es (is_eq (R q k)) refl ∙ sym (found_inserted q k w es (is_eq (R q k)) refl))

  -- inserting the value that is already there changes nothing
  pub insert_same : (k : K) (v : X) (es : List (K × X)) → IsStrictlySortedBy R (keys_of es) → lookup (is_at (R k)) es ≡ Some v → insert_entry R es k v ≡ es
  insert_same k v es s found = sym (set_value-there o k v v es s found) ∙ set_value_same (is_at (R k)) es v found

  inserted_then_removed : (q k : K) (v : X) (es : List (K × X)) (b : Bool) → is_eq (R q k) ≡ b
      → cond b None (lookup (is_at (R q)) (insert_entry R es k v)) ≡ cond b None (lookup (is_at (R q)) es)
  inserted_then_removed q k v es true p = refl
  inserted_then_removed q k v es false p = found_inserted q k v es false p

  -- a removal leaves nothing of an insertion at the same key
  pub remove-insert_same : (k : K) (v : X) (es : List (K × X)) → IsStrictlySortedBy R (keys_of es) → remove_entry (is_at (R k)) (insert_entry R es k v) ≡ remove_entry (is_at (R k)) es
  remove-insert_same k v es s =
      let t = sorted-inserted o k v es s in
      same_map o same _ _ (sorted-removed o k _ t) (sorted-removed o k es s)
      (λ q. found_removed q k (insert_entry R es k v) t (is_eq (R q k)) refl ∙ inserted_then_removed q k v es (is_eq (R q k)) refl ∙ sym (found_removed q k es s (is_eq (R q k)) refl))

  removed_absent : (q k : K) (es : List (K × X)) → lookup (is_at (R k)) es ≡ None → (b : Bool) → is_eq (R q k) ≡ b → cond b None (lookup (is_at (R q)) es) ≡ lookup (is_at (R q)) es
  removed_absent q k es none true p =
      let e : k ≡ q = sym (same q k (is_Equal (R q k) p)) in
      subst (λ z. None ≡ lookup (is_at (R z)) es) e (sym none)
  removed_absent q k es none false p = refl

  pub remove_absent : (k : K) (es : List (K × X)) → IsStrictlySortedBy R (keys_of es) → lookup (is_at (R k)) es ≡ None → remove_entry (is_at (R k)) es ≡ es
  remove_absent k es s none =
      same_map o same _ _ (sorted-removed o k es s) s (λ q. found_removed q k es s (is_eq (R q k)) refl ∙ removed_absent q k es none (is_eq (R q k)) refl)

  -- ---- changes at two keys, in either order

  first_of_two : (q k x : K) (n : is_eq (R k x) ≡ false) (v w f : Option X) (a b : Bool) → is_eq (R q k) ≡ a → is_eq (R q x) ≡ b → cond a v (cond b w f) ≡ cond b w (cond a v f)
  first_of_two q k x n v w f true true p r = not_both o q k x n p r
  first_of_two q k x n v w f true false p r = refl
  first_of_two q k x n v w f false b p r = refl

  pub insert-insert : (k x : K) (v w : X) (es : List (K × X)) → IsStrictlySortedBy R (keys_of es) → is_eq (R k x) ≡ false
      → insert_entry R (insert_entry R es x w) k v ≡ insert_entry R (insert_entry R es k v) x w
  insert-insert k x v w es s n =
      same_map o same _ _ (sorted-inserted o k v _ (sorted-inserted o x w es s)) (sorted-inserted o x w _ (sorted-inserted o k v es s))
      (λ q. found_inserted q k v (insert_entry R es x w) (is_eq (R q k)) refl
      ∙ ap (cond (is_eq (R q k)) (Some v)) (found_inserted q x w es (is_eq (R q x)) refl)
      ∙ first_of_two q k x n (Some v) (Some w) (lookup (is_at (R q)) es) (is_eq (R q k)) (is_eq (R q x)) refl refl
      ∙ sym (found_inserted q x w (insert_entry R es k v) (is_eq (R q x)) refl ∙ ap (cond (is_eq (R q x)) (Some w)) (found_inserted q k v es (is_eq (R q k)) refl)))

  pub remove-insert : (k x : K) (w : X) (es : List (K × X)) → IsStrictlySortedBy R (keys_of es) → is_eq (R k x) ≡ false
      → remove_entry (is_at (R k)) (insert_entry R es x w) ≡ insert_entry R (remove_entry (is_at (R k)) es) x w
  remove-insert k x w es s n =
      let t = sorted-inserted o x w es s in
      same_map o same _ _ (sorted-removed o k _ t) (sorted-inserted o x w _ (sorted-removed o k es s))
      (λ q. found_removed q k (insert_entry R es x w) t (is_eq (R q k)) refl
      ∙ ap (cond (is_eq (R q k)) None) (found_inserted q x w es (is_eq (R q x)) refl)
      ∙ first_of_two q k x n None (Some w) (lookup (is_at (R q)) es) (is_eq (R q k)) (is_eq (R q x)) refl refl
      ∙ sym (found_inserted q x w (remove_entry (is_at (R k)) es) (is_eq (R q x)) refl ∙ ap (cond (is_eq (R q x)) (Some w)) (found_removed q k es s (is_eq (R q k)) refl)))
