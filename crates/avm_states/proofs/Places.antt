-- What a binary search finds among entries by rising key.
use Rattle.std.proofs.Common.{◌≡◌, ◌∙◌, ℕ, zero, suc, ◌+◌, ◌<◌, ◌≤◌, false, List, [], ◌∷◌, length, get_or, None, Some, Result, Ok, Err, refl, sym, ap, subst, cond, arith}
use Rattle.std.specs.Ordering.{is_eq, is_lt, match_ordering, ordering_reverse}
use Rattle.std.specs.declared.cmp.Ordering.{Ordering}
use Rattle.std.specs.declared.cmp.Ordering.TheVariants.{Less, Equal, Greater}
use Rattle.std.specs.Cmp.{IsTotalOrder, alike_right}
use Rattle.std.specs.List.{AllByRecursion}
use Rattle.std.specs.List.Sorted.{IsBinarySearchResult, IsSearchInRange, IsStrictlySortedBy}
use Rattle.std.specs.Map.{keys_of, lookup, remove_entry}
use Rattle.std.specs.BTreeMap.{insert_entry, is_at}
use Rattle.std.proofs.lemmas.List.Sorted.{searchable_from_sorted}
use Rattle.avm_states.specs.Places.{IsPlaceOf, StandsAt, WouldGoTo}

module _ {K : Type 0} {R : K → K → Ordering} (o : IsTotalOrder R) where
  turned : (x k : K) (r : Ordering) → R x k ≡ r → R k x ≡ ordering_reverse r
  turned x k r e = o.antisymm k x ∙ ap ordering_reverse e

module _ {K X : Type 0} {R : K → K → Ordering} (o : IsTotalOrder R) where
  -- each key is below the next
  below_next : (xs : List (K × X)) (e : K × X) → AllByRecursion (λ y. R e.0 y ≡ Less) (keys_of xs) → (i : ℕ) (d : K × X) → i < length xs → R e.0 (get_or xs i d).0 ≡ Less
  below_next [] e h i d within = absurd (omega (arith, within))
  below_next (x ∷ xs) e h zero d within = h.0
  below_next (x ∷ xs) e h (suc i) d within = below_next xs e h.1 i d (omega (arith, within))

  stands : (es : List (K × X)) (k : K) → IsStrictlySortedBy R (keys_of es) → (i : ℕ) → i < length es → ((d : K × X) → R (get_or es i d).0 k ≡ Equal) → StandsAt R k es i
  unfolding IsStrictlySortedBy
  stands [] k s i within same = absurd (omega (arith, within))
  stands (e ∷ es) k s zero within same =
      let here : R k e.0 ≡ Equal = turned o e.0 k Equal (same e) in
      record {
        within = within;
        value = λ d. ap (λ r. cond (is_eq r) (Some e.1) (lookup (is_at (R k)) es)) here;
        set = λ d v. ap (λ r. match_ordering r ((k, v) ∷ e ∷ es) ((e.0, v) ∷ es) (e ∷ insert_entry R es k v)) here;
        taken = ap (λ r. cond (is_eq r) es (e ∷ remove_entry (is_at (R k)) es)) here;
      }
  stands (e ∷ es) k s (suc i) within same =
      let below : R e.0 (get_or es i e).0 ≡ Less = below_next es e s.0 i e (omega (arith, within)) in
      let past : R k e.0 ≡ Greater = turned o e.0 k Less (sym (alike_right o (get_or es i e).0 k e.0 (same e)) ∙ below) in
      let rest = stands es k s.1 i (omega (arith, within)) same in
      record {
        within = within;
        value = λ d. ap (λ r. cond (is_eq r) (Some e.1) (lookup (is_at (R k)) es)) past ∙ rest.value d;
        set = λ d v. ap (λ r. match_ordering r ((k, v) ∷ e ∷ es) ((e.0, v) ∷ es) (e ∷ insert_entry R es k v)) past ∙ ap (λ t. e ∷ t) (rest.set d v);
        taken = ap (λ r. cond (is_eq r) es (e ∷ remove_entry (is_at (R k)) es)) past ∙ ap (λ t. e ∷ t) rest.taken;
      }

  none_there : (es : List (K × X)) (k : K) → ((j : ℕ) (d : K × X) → j < length es → R (get_or es j d).0 k ≡ Greater) → (lookup (is_at (R k)) es ≡ None) × (remove_entry (is_at (R k)) es ≡ es)
  none_there [] k above = (refl, refl)
  none_there (e ∷ es) k above =
      let here : R k e.0 ≡ Less = turned o e.0 k Greater (above zero e (omega arith)) in
      let rest = none_there es k (λ j d within. above (suc j) d (omega (arith, within))) in (
        ap (λ r. cond (is_eq r) (Some e.1) (lookup (is_at (R k)) es)) here ∙ rest.0,
        ap (λ r. cond (is_eq r) es (e ∷ remove_entry (is_at (R k)) es)) here ∙ ap (λ t. e ∷ t) rest.1,
      )

  would_go : (es : List (K × X)) (k : K) (i : ℕ) → i ≤ length es → ((j : ℕ) (d : K × X) → j < i → R (get_or es j d).0 k ≡ Less)
      → ((j : ℕ) (d : K × X) → i ≤ j → j < length es → R (get_or es j d).0 k ≡ Greater) → WouldGoTo R k es i
  would_go [] k zero within below above = record { within = within; none = refl; set = λ v. refl; taken = refl }
  would_go [] k (suc i) within below above = absurd (omega (arith, within))
  would_go (e ∷ es) k zero within below above =
      let here : R k e.0 ≡ Less = turned o e.0 k Greater (above zero e (omega arith) (omega arith)) in
      let none = none_there (e ∷ es) k (λ j d inside. above j d (omega arith) inside) in
      record {
        within = within;
        none = none.0;
        set = λ v. ap (λ r. match_ordering r ((k, v) ∷ e ∷ es) ((e.0, v) ∷ es) (e ∷ insert_entry R es k v)) here;
        taken = none.1;
      }
  would_go (e ∷ es) k (suc i) within below above =
      let past : R k e.0 ≡ Greater = turned o e.0 k Less (below zero e (omega arith)) in
      let rest = would_go es k i (omega (arith, within)) (λ j d h. below (suc j) d (omega (arith, h))) (λ j d h inside. above (suc j) d (omega (arith, h)) (omega (arith, inside))) in
      record {
        within = within;
        none = ap (λ r. cond (is_eq r) (Some e.1) (lookup (is_at (R k)) es)) past ∙ rest.none;
        set = λ v. ap (λ r. match_ordering r ((k, v) ∷ e ∷ es) ((e.0, v) ∷ es) (e ∷ insert_entry R es k v)) past ∙ ap (λ t. e ∷ t) (rest.set v);
        taken = ap (λ r. cond (is_eq r) es (e ∷ remove_entry (is_at (R k)) es)) past ∙ ap (λ t. e ∷ t) rest.taken;
      }

  -- each key is below the next, as a binary search asks
  rises : (es : List (K × X)) → IsStrictlySortedBy R (keys_of es) → (i : ℕ) (d : K × X) → suc i < length es → is_lt (R (get_or es (suc i) d).0 (get_or es i d).0) ≡ false
  unfolding IsStrictlySortedBy
  rises [] s i d within = absurd (omega (arith, within))
  rises (e ∷ es) s zero d within = ap is_lt (turned o e.0 (get_or es zero d).0 Less (below_next es e s.0 zero d (omega (arith, within))))
  rises (e ∷ es) s (suc i) d within = rises es s.1 i d (omega (arith, within))

  -- a binary search by key among entries in order finds where the key stands or would go
  pub searched : (es : List (K × X)) (k : K) → IsStrictlySortedBy R (keys_of es) → (r : Result ℕ ℕ) → IsSearchInRange r (length es) → IsBinarySearchResult (λ e. R e.0 k) es r → IsPlaceOf R k es r
  searched es k s (Ok i) within same = stands es k s i within same
  searched es k s (Err i) within parted =
      let parts = parted (searchable_from_sorted o (λ (e : K × X). e.0) es k (λ i d _ within. subst (λ n. is_lt (R (get_or es n d).0 (get_or es i d).0) ≡ false) {x = suc i} {y = i + 1} (omega arith) (rises es s i d (omega (arith, within))))) in
      would_go es k i within (λ j d h. parts.0 j d (omega arith) h) (λ j d h inside. parts.1 j d h inside)

-- The entries that were searched are those of the `Vec`, and the place is one among these.
module _ {K X : Type 0} {R : K → K → Ordering} {k : K} {place : ℕ} {found es : List (K × X)} (same : found ≡ es) where
  pub stands_in : StandsAt R k found place → StandsAt R k es place
  stands_in = subst (λ xs. StandsAt R k xs place) same

  pub would_go_in : WouldGoTo R k found place → WouldGoTo R k es place
  would_go_in = subst (λ xs. WouldGoTo R k xs place) same
