-- Reading entries one after another into a map: each key stands above those before, so each entry comes last.
use Rattle.std.proofs.Common.{◌≡◌, List, [], ◌∷◌, ◌++◌, Result, Ok, Err, refl, sym, ap, ◌∙◌, subst, append_assoc}
use Rattle.std.specs.Ordering.{match_ordering, ordering_reverse}
use Rattle.std.specs.declared.cmp.Ordering.{Ordering}
use Rattle.std.specs.declared.cmp.Ordering.TheVariants.{Less, Greater}
use Rattle.std.specs.Cmp.{IsTotalOrder}
use Rattle.std.specs.Map.{keys_of}
use Rattle.std.specs.BTreeMap.{insert_entry}
use Rattle.std.specs.List.{AllByRecursion}
use Rattle.std.specs.List.Sorted.{IsStrictlySortedBy}
use Rattle.teal_value.specs.Answer.{◌>>=◌}
use Rattle.avm_ledger.specs.FieldReader.{Front}

-- values read, after those in front
abbrev pub with_front : {A F : Type 0} → List A → Front F (List A) → Front F (List A)
with_front front r = r >>= λ xs. Ok (front ++ xs.0, xs.1)

pub none_in_front : {A F : Type 0} (r : Front F (List A)) → with_front [] r ≡ r
none_in_front (Ok xs) = refl
none_in_front (Err e) = refl

-- putting a value first among those read is the same as appending it to those in front
pub one_in_front : {A F : Type 0} (front : List A) (x : A) (r : Front F (List A)) → with_front front (r >>= λ xs. Ok (x ∷ xs.0, xs.1)) ≡ with_front (front ++ x ∷ []) r
one_in_front front x (Ok xs) = ap (λ ys. Ok (ys, xs.1)) (sym (append_assoc front (x ∷ []) xs.0))
one_in_front front x (Err e) = refl

-- a step that failed
pub stopped : {A B F : Type 0} (r : Result A F) (d : F) (f : A → Result B F) → r ≡ Err d → (r >>= f) ≡ Err d
stopped r d f e = ap (λ s. s >>= f) e

module _ {K X : Type 0} {R : K → K → Ordering} (o : IsTotalOrder R) where
  -- all keys are below this one
  abbrev pub AllLower : List (K × X) → K → Type 0
  AllLower es k = AllByRecursion (λ y. R y k ≡ Less) (keys_of es)

  -- an entry whose key is above all others is inserted last
  pub insert_last : (k : K) (v : X) (es : List (K × X)) → AllLower es k → insert_entry R es k v ≡ es ++ (k, v) ∷ []
  insert_last k v [] h = refl
  insert_last k v (e ∷ es) h =
      let above : R k e.0 ≡ Greater = o.antisymm k e.0 ∙ ap ordering_reverse h.0 in
      ap (λ r. match_ordering r ((k, v) ∷ e ∷ es) ((e.0, v) ∷ es) (e ∷ insert_entry R es k v)) above ∙ ap (λ xs. e ∷ xs) (insert_last k v es h.1)

  -- entries below a key, and one at that key behind them, are all below a higher key
  pub all_lower_more : (k q : K) (v : X) (es : List (K × X)) → AllLower es k → R k q ≡ Less → AllLower (es ++ (k, v) ∷ []) q
  all_lower_more k q v [] h p = (p, tt)
  all_lower_more k q v (e ∷ es) h p = (o.trans e.0 k q h.0 p, all_lower_more k q v es h.1 p)

  above_front : (k : K) (before rest : List (K × X)) (e : K × X) → AllByRecursion (λ y. R k y ≡ Less) (keys_of (before ++ e ∷ rest)) → R k e.0 ≡ Less
  above_front k [] rest e h = h.0
  above_front k (b ∷ before) rest e h = above_front k before rest e h.1

  -- in a map, all entries before one are below it
  pub all_below : (before rest : List (K × X)) (e : K × X) → IsStrictlySortedBy R (keys_of (before ++ e ∷ rest)) → AllLower before e.0
  unfolding IsStrictlySortedBy
  all_below [] rest e s = tt
  all_below (b ∷ before) rest e s = (above_front b.0 before rest e s.0, all_below before rest e s.1)

  -- so it goes behind them
  pub goes_last : (before rest : List (K × X)) (e : K × X) → IsStrictlySortedBy R (keys_of (before ++ e ∷ rest)) → insert_entry R before e.0 e.1 ≡ before ++ e ∷ []
  goes_last before rest e s = insert_last e.0 e.1 before (all_below before rest e s)

  -- the next entry of a map, put behind those that were moved before it
  pub moved_next : (before rest all : List (K × X)) (e : K × X) → IsStrictlySortedBy R (keys_of all) → before ++ e ∷ rest ≡ all → insert_entry R before e.0 e.1 ++ rest ≡ all
  moved_next before rest all e s is =
      ap (λ es. es ++ rest) (goes_last before rest e (subst (λ es. IsStrictlySortedBy R (keys_of es)) (sym is) s)) ∙ append_assoc before (e ∷ []) rest ∙ is
