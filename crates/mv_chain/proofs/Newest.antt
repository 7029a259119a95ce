-- Versions with the newest apart: those before it, and then it.
use Rattle.std.proofs.Common.{◌≡◌, ◌∙◌, ℕ, zero, suc, ◌-◌, ◌<◌, ◌≤◌, ◌≢◌, ◌==◌, max, insert, Bool, true, false, if◌then◌else◌, nat_le, List, [], ◌∷◌, ◌++◌, length, drop, get_or, Result, Ok, Err, refl, sym, ap, subst, arith}
use Rattle.std.specs.Result.{OnErr, OnOk}
use Rattle.std.specs.List.{AllByRecursion}
use Rattle.mv_chain.specs.declared.chain.Version.{Version}
use Rattle.mv_chain.specs.Versions.{AreRising, IsChain, IsRow, count_not_above, mark_in, marked_at_index, newest_at, oldest_timestamp, versions_from, versions_read_at, versions_with}
use Rattle.mv_history.proofs.Lists.{AtMost, above, at_most, within}
use Rattle.mv_chain.proofs.Marks.{mark_in-held, mark_in-not_held}
use Rattle.mv_chain.proofs.Indexes.{count_not_above-all, count_not_above-positive, count_not_above-within}

module _ {V : Type 0} (n : Version V) where
  abbrev pub all_with : List (Version V) → List (Version V)
  all_with older = older ++ n ∷ []

  -- those before the newest rise too
  rising_front : (bound : ℕ) (older : List (Version V)) → AreRising bound (all_with older) → AreRising bound older
  rising_front bound [] r = tt
  rising_front bound (v ∷ vs) r = (r.0, rising_front v.timestamp vs r.1)

  pub row_front : (older : List (Version V)) → IsChain (all_with older) → IsRow older
  row_front [] c = tt
  row_front (v ∷ vs) c = rising_front v.timestamp vs c

  -- ---- what stands where

  pub len_with : (older : List (Version V)) → length (all_with older) ≡ suc (length older)
  len_with [] = refl
  len_with (v ∷ vs) = ap suc (len_with vs)

  pub last_with : (older : List (Version V)) (d : Version V) → get_or (all_with older) (length older) d ≡ n
  last_with [] d = refl
  last_with (v ∷ vs) d = last_with vs d

  pub front_with : (older : List (Version V)) (i : ℕ) (d e : Version V) → i < length older → get_or (all_with older) i d ≡ get_or older i e
  front_with [] i d e lt = absurd (omega (arith, lt))
  front_with (v ∷ vs) zero d e lt = refl
  front_with (v ∷ vs) (suc i) d e lt = front_with vs i d e (omega (arith, lt))

  -- ---- the count

  pub count_all : (t : ℕ) (older : List (Version V)) → IsChain (all_with older) → n.timestamp ≤ t → count_not_above t (all_with older) ≡ suc (length older)
  count_all t older c below =
      sym (count_not_above-all t (length older) (all_with older) n c (sym (len_with older)) (subst (λ v. v.timestamp ≤ t) (sym (last_with older n)) below)) ∙ len_with older

  last_index : (t : ℕ) (older : List (Version V)) → IsChain (all_with older) → n.timestamp ≤ t → count_not_above t (all_with older) - 1 ≡ length older
  last_index t older c below = let all = count_all t older c below in omega (arith, all)

  pub count_front : (t : ℕ) (older : List (Version V)) → t < n.timestamp → count_not_above t (all_with older) ≡ count_not_above t older
  count_front t [] later = by (nat_le n.timestamp t) (at_most n.timestamp t)
    where
      by : (b : Bool) → AtMost n.timestamp t b → ◌≡◌ {A = ℕ} (if b then 1 else 0) 0
      by b (within k) = absurd (omega (arith, k, later))
      by b (above k) = refl
  count_front t (v ∷ vs) later = ap (λ k. if nat_le v.timestamp t then suc k else 0) (count_front t vs later)

  -- where the newest is above a timestamp, one before it is found
  pub found_front : (t : ℕ) (older : List (Version V)) → IsChain (all_with older) → oldest_timestamp (all_with older) ≤ t → t < n.timestamp → 0 < count_not_above t older
  found_front t older c old later = subst (λ k. 0 < k) (count_front t older later) (count_not_above-positive t (all_with older) c old)

  pub newest_is_last : (t : ℕ) (older : List (Version V)) (d : Version V) → IsChain (all_with older) → n.timestamp ≤ t → n ≡ newest_at t (all_with older) d
  newest_is_last t older d c below = sym (ap (λ k. get_or (all_with older) k d) (last_index t older c below) ∙ last_with older d)

  pub newest_in_front : (t i : ℕ) (older : List (Version V)) (d v : Version V) → IsChain (all_with older) → oldest_timestamp (all_with older) ≤ t → t < n.timestamp
      → i ≡ count_not_above t older - 1 → v ≡ get_or older i v → v ≡ newest_at t (all_with older) d
  newest_in_front t i older d v c old later at is =
      let some = found_front t older c old later in
      let few = count_not_above-within t older in
      is ∙ sym (front_with older i d v (omega (arith, at, some, few))) ∙ ap (λ k. get_or (all_with older) k d) (at ∙ ap (λ k. k - 1) (sym (count_front t older later)))

  -- ---- marks

  marked_last : (t : ℕ) (older : List (Version V)) → marked_at_index (length older) t (all_with older) ≡ older ++ record n { mark = max n.mark t } ∷ []
  marked_last t [] = refl
  marked_last t (v ∷ vs) = ap (λ l. v ∷ l) (marked_last t vs)

  pub read_last : (t : ℕ) (older : List (Version V)) → IsChain (all_with older) → n.timestamp ≤ t → older ++ record n { mark = max n.mark t } ∷ [] ≡ versions_read_at t (all_with older)
  read_last t older c below = sym (ap (λ k. marked_at_index k t (all_with older)) (last_index t older c below) ∙ marked_last t older)

  marked_front : (i t : ℕ) (older : List (Version V)) → i < length older → marked_at_index i t (all_with older) ≡ marked_at_index i t older ++ n ∷ []
  marked_front i t [] lt = absurd (omega (arith, lt))
  marked_front zero t (v ∷ vs) lt = refl
  marked_front (suc i) t (v ∷ vs) lt = ap (λ l. v ∷ l) (marked_front i t vs (omega (arith, lt)))

  pub read_front : (i t : ℕ) (older : List (Version V)) → IsChain (all_with older) → oldest_timestamp (all_with older) ≤ t → t < n.timestamp → i ≡ count_not_above t older - 1
      → marked_at_index i t older ++ n ∷ [] ≡ versions_read_at t (all_with older)
  read_front i t older c old later at =
      let some = found_front t older c old later in
      let few = count_not_above-within t older in
      sym (marked_front i t older (omega (arith, at, some, few))) ∙ ap (λ k. marked_at_index k t (all_with older)) (at ∙ ap (λ k. k - 1) (sym (count_front t older later)))

  -- ---- a version more

  insert_last : (older : List (Version V)) (v : Version V) → insert (all_with older) (suc (length older)) v ≡ all_with older ++ v ∷ []
  insert_last [] v = refl
  insert_last (w ∷ ws) v = ap (λ l. w ∷ l) (insert_last ws v)

  pub with_last : (t : ℕ) (value : V) (older : List (Version V)) → IsChain (all_with older) → n.timestamp ≤ t
      → all_with older ++ record { timestamp = t; mark = 0; value = value } ∷ [] ≡ versions_with t value (all_with older)
  with_last t value older c below = sym (ap (λ k. insert (all_with older) k (record { timestamp = t; mark = 0; value = value })) (count_all t older c below) ∙ insert_last older (record { timestamp = t; mark = 0; value = value }))

  insert_front : (i : ℕ) (older : List (Version V)) (v : Version V) → i ≤ length older → insert (all_with older) i v ≡ insert older i v ++ n ∷ []
  insert_front zero [] v le = refl
  insert_front (suc i) [] v le = absurd (omega (arith, le))
  insert_front zero (w ∷ ws) v le = refl
  insert_front (suc i) (w ∷ ws) v le = ap (λ l. w ∷ l) (insert_front i ws v (omega (arith, le)))

  pub with_front : (t i : ℕ) (value : V) (older : List (Version V)) → t < n.timestamp → i ≡ count_not_above t older
      → insert older i (record { timestamp = t; mark = 0; value = value }) ++ n ∷ [] ≡ versions_with t value (all_with older)
  with_front t i value older later at =
      let few = count_not_above-within t older in
      sym (insert_front i older (record { timestamp = t; mark = 0; value = value }) (omega (arith, at, few)))
      ∙ ap (λ k. insert (all_with older) k (record { timestamp = t; mark = 0; value = value })) (at ∙ sym (count_front t older later))

  -- no version has a timestamp, and so the newest is above it or below it
  pub newest_absent : (t : ℕ) (older : List (Version V)) → AllByRecursion (λ v. v.timestamp ≢ t) (all_with older) → n.timestamp ≢ t
  newest_absent t [] a = a.0
  newest_absent t (v ∷ vs) a = newest_absent t vs a.1

  -- ---- pruning

  drop_last : (older : List (Version V)) → drop (length older) (all_with older) ≡ n ∷ []
  drop_last [] = refl
  drop_last (v ∷ vs) = drop_last vs

  pub from_last : (t : ℕ) (older : List (Version V)) → IsChain (all_with older) → n.timestamp ≤ t → n ∷ [] ≡ versions_from t (all_with older)
  from_last t older c below = sym (ap (λ k. drop k (all_with older)) (last_index t older c below) ∙ drop_last older)

  drop_front : (i : ℕ) (older : List (Version V)) → i ≤ length older → drop i (all_with older) ≡ drop i older ++ n ∷ []
  drop_front zero older le = refl
  drop_front (suc i) [] le = absurd (omega (arith, le))
  drop_front (suc i) (v ∷ vs) le = drop_front i vs (omega (arith, le))

  pub from_front : (t i : ℕ) (older : List (Version V)) → t < n.timestamp → i ≡ count_not_above t older - 1 → drop i older ++ n ∷ [] ≡ versions_from t (all_with older)
  from_front t i older later at =
      let few = count_not_above-within t older in
      sym (drop_front i older (omega (arith, at, few))) ∙ ap (λ k. drop k (all_with older)) (at ∙ ap (λ k. k - 1) (sym (count_front t older later)))

  -- where one version at most before the newest is not above a timestamp, all stay
  pub none_before : (t : ℕ) (older : List (Version V)) → t < n.timestamp → count_not_above t older ≤ 1 → all_with older ≡ versions_from t (all_with older)
  none_before t older later few =
      let first : count_not_above t (all_with older) - 1 ≡ 0 = let same = count_front t older later in omega (arith, same, few) in
      sym (ap (λ k. drop k (all_with older)) first)

  -- ---- the mark of a timestamp

  mark_here : (t : ℕ) (i : ℕ) (vs : List (Version V)) (v : Version V) (b : Bool) → IsChain vs → i ≡ count_not_above t vs → i ≢ 0 → v ≡ get_or vs (i - 1) v → (v.timestamp == t) ≡ b → (if b then v.mark else 0) ≡ mark_in t vs
  mark_here t i vs v true c at some is same = mark_in-held t i vs v c at some is (grind (arith, same))
  mark_here t i vs v false c at some is other = mark_in-not_held t i vs v c at some is (grind (arith, other))

  pub mark_last : (t : ℕ) (older : List (Version V)) → IsChain (all_with older) → n.timestamp ≤ t → (if n.timestamp == t then n.mark else 0) ≡ mark_in t (all_with older)
  mark_last t older c below =
      let all = count_all t older c below in
      mark_here t (suc (length older)) (all_with older) n (n.timestamp == t) c (sym all) (λ no. absurd (omega (arith, no)))
      (sym (ap (λ k. get_or (all_with older) k n) (omega arith) ∙ last_with older n)) refl

  pub mark_front : (t i : ℕ) (older : List (Version V)) (v : Version V) → IsChain (all_with older) → t < n.timestamp → i ≡ count_not_above t older → i ≢ 0 → v ≡ get_or older (i - 1) v
      → (if v.timestamp == t then v.mark else 0) ≡ mark_in t (all_with older)
  mark_front t i older v c later at some is =
      let few = count_not_above-within t older in
      mark_here t i (all_with older) v (v.timestamp == t) c (at ∙ sym (count_front t older later)) some
      (is ∙ sym (front_with older (i - 1) v v (omega (arith, at, some, few)))) refl

-- what either list is, the list that is left is
pub left_is : {X U E : Type 0} (P : X → Type 0) (r : Result U E) (new whole old : X) → OnOk r (new ≡ whole) → OnErr r (new ≡ old) → P whole → P old → P new
left_is P (Ok u) new whole old ok err p q = subst P (sym ok) p
left_is P (Err e) new whole old ok err p q = subst P (sym err) q
