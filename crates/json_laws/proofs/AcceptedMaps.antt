-- What holds of all entries holds of them after an insertion.
use Rattle.std.proofs.Common.{◌≡◌, Bool, true, false, cond, List, [], ◌∷◌, Some, refl, subst}
use Rattle.std.specs.Prelude.{All}
use Rattle.std.specs.Ordering.{match_ordering}
use Rattle.std.specs.declared.cmp.Ordering.{Ordering}
use Rattle.std.specs.declared.cmp.Ordering.TheVariants.{Less, Equal, Greater}
use Rattle.std.specs.BTreeMap.{insert_entry}
use Rattle.std.specs.Map.{lookup}
use Rattle.std.proofs.lemmas.List.Elements.{All-nil, All-cons, All-head, All-tail}

-- what holds of all entries and of a new one holds of all after its insertion
pub all_inserted : {K X : Type 0} (R : K → K → Ordering) (P : K × X → Type 0) → ((x y : K) → R x y ≡ Equal → x ≡ y) → (k : K) (v : X) (es : List (K × X)) → P (k, v) → All P es → All P (insert_entry R es k v)
all_inserted R P same k v [] p all = All-cons P (k, v) [] p (All-nil P)
all_inserted R P same k v (e ∷ es) p all = at_order (R k e.0) refl (all_inserted R P same k v es p (All-tail P e es all))
  where
    at_order : (r : Ordering) → R k e.0 ≡ r → All P (insert_entry R es k v) → All P (match_ordering r ((k, v) ∷ e ∷ es) ((e.0, v) ∷ es) (e ∷ insert_entry R es k v))
    at_order Less is later = All-cons P (k, v) (e ∷ es) p all
    at_order Equal is later = All-cons P (e.0, v) es (subst (λ x. P (x, v)) (same k e.0 is) p) (All-tail P e es all)
    at_order Greater is later = All-cons P e (insert_entry R es k v) (All-head P e es all) later

-- what is found is the value of an entry
pub found_keeps : {K X : Type 0} (P : X → Type 0) (test : K → Bool) (v : X) (es : List (K × X)) → lookup test es ≡ Some v → All (λ e. P e.1) es → P v
found_keeps P test v [] e all = absurd cc
found_keeps P test v (x ∷ xs) e all = at_test (test x.0) (found_keeps P test v xs) e
  where
    at_test : (b : Bool) → (lookup test xs ≡ Some v → All (λ e. P e.1) xs → P v) → cond b (Some x.1) (lookup test xs) ≡ Some v → P v
    at_test true later e = let value : x.1 ≡ v = cc in subst P value (All-head (λ e. P e.1) x xs all)
    at_test false later e = later e (All-tail (λ e. P e.1) x xs all)
