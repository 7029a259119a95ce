-- The mark of the version with a timestamp, along the versions.
use Rattle.std.proofs.Common.{◌≡◌, ℕ, suc, ◌-◌, ◌<◌, ◌≤◌, ◌≢◌, ◌==◌, max, insert, Bool, true, false, if◌then◌else◌, nat_le, List, [], ◌∷◌, get_or, refl, sym, ap, ◌∙◌, subst, arith}
use Rattle.std.specs.List.{AllByRecursion}
use Rattle.mv_chain.specs.declared.chain.Version.{Version}
use Rattle.mv_chain.specs.Versions.{count_not_above, IsChain, AreRising, mark_in}
use Rattle.mv_chain.specs.Laws.{EveryInstallKeepsMarks, EveryMarkIsOfItsVersion, EveryPruneKeepsMarks, EveryReadRaisesOneMark}
use Rattle.mv_history.proofs.Lists.{AtMost, above, at_most, within}
use Rattle.mv_chain.proofs.Found.{found, newest_at-found, found-at_least, from, versions_from-from, read_by, first_read, others_read, versions_read_at-first}

-- a test whether two numbers are one, decided
data Equals (a b : ℕ) : Bool → Type 0 where
  equal : a ≡ b → Equals a b true
  unequal : a ≢ b → Equals a b false

equals : (a b : ℕ) → Equals a b (a == b)
equals a b = as_test (a == b) refl
  where
    as_test : (c : Bool) → (a == b) ≡ c → Equals a b c
    as_test true h = equal (grind (arith, h))
    as_test false h = unequal (λ e. grind (arith, h, e))

module _ {V : Type 0} where
  -- the first version, or those after it
  mark_in-first : (n : ℕ) (v : Version V) (ws : List (Version V)) → v.timestamp ≡ n → mark_in n (v ∷ ws) ≡ v.mark
  mark_in-first n v ws e = at_test (v.timestamp == n) (equals v.timestamp n)
    where
      at_test : (c : Bool) → Equals v.timestamp n c → (if c then v.mark else mark_in n ws) ≡ v.mark
      at_test c (equal h) = refl
      at_test c (unequal h) = absurd (h e)

  mark_in-rest : (n : ℕ) (v : Version V) (ws : List (Version V)) → v.timestamp ≢ n → mark_in n (v ∷ ws) ≡ mark_in n ws
  mark_in-rest n v ws e = at_test (v.timestamp == n) (equals v.timestamp n)
    where
      at_test : (c : Bool) → Equals v.timestamp n c → (if c then v.mark else mark_in n ws) ≡ mark_in n ws
      at_test c (equal h) = absurd (e h)
      at_test c (unequal h) = refl

  mark_in-absent : (n : ℕ) (vs : List (Version V)) → AllByRecursion (λ version. version.timestamp ≢ n) vs → mark_in n vs ≡ 0
  mark_in-absent n [] h = refl
  mark_in-absent n (v ∷ vs) h = mark_in-rest n v vs h.0 ∙ mark_in-absent n vs h.1

  mark_in-below : (n bound : ℕ) (vs : List (Version V)) → n ≤ bound → AreRising bound vs → mark_in n vs ≡ 0
  mark_in-below n bound [] h r = refl
  mark_in-below n bound (v ∷ vs) h r = mark_in-rest n v vs (let k : bound < v.timestamp = r.0 in omega arith) ∙ mark_in-below n v.timestamp vs (let k : bound < v.timestamp = r.0 in omega arith) r.1

  mark_in-found : (t : ℕ) (v : Version V) (ws : List (Version V)) → AreRising v.timestamp ws → mark_in (found t v ws).timestamp (v ∷ ws) ≡ (found t v ws).mark
  mark_in-found t v [] r = mark_in-first v.timestamp v [] refl
  mark_in-found t v (w ∷ ws) r = at_test (nat_le w.timestamp t) (mark_in-found t w ws r.1)
    where
      at_test : (c : Bool) → mark_in (found t w ws).timestamp (w ∷ ws) ≡ (found t w ws).mark → mark_in (if c then found t w ws else v).timestamp (v ∷ w ∷ ws) ≡ (if c then found t w ws else v).mark
      at_test true rest = mark_in-rest (found t w ws).timestamp v (w ∷ ws) (let here : v.timestamp < w.timestamp = r.0 in let next : w.timestamp ≤ (found t w ws).timestamp = found-at_least t w ws r.1 in omega arith) ∙ rest
      at_test false rest = mark_in-first v.timestamp v (w ∷ ws) refl

  -- where the version found has another timestamp, none has this one
  mark_in-another : (n : ℕ) (v : Version V) (ws : List (Version V)) → v.timestamp ≤ n → AreRising v.timestamp ws → (found n v ws).timestamp ≢ n → mark_in n (v ∷ ws) ≡ 0
  mark_in-another n v [] h r other = mark_in-rest n v [] other
  mark_in-another n v (w ∷ ws) h r other = at_test (nat_le w.timestamp n) (at_most w.timestamp n) other (λ k. mark_in-another n w ws k r.1)
    where
      at_test : (c : Bool) → AtMost w.timestamp n c → (if c then found n w ws else v).timestamp ≢ n → (w.timestamp ≤ n → (found n w ws).timestamp ≢ n → mark_in n (w ∷ ws) ≡ 0) → mark_in n (v ∷ w ∷ ws) ≡ 0
      at_test c (within k) other rest = mark_in-rest n v (w ∷ ws) (let here : v.timestamp < w.timestamp = r.0 in omega arith) ∙ rest k other
      at_test c (above k) other rest = mark_in-rest n v (w ∷ ws) other ∙ mark_in-below n n (w ∷ ws) (omega arith) (k, r.1)

  -- a read
  mark_in-read : (t n : ℕ) (v : Version V) (ws : List (Version V)) → AreRising v.timestamp ws
      → mark_in n (first_read t v ws ∷ others_read t v ws) ≡ (if (found t v ws).timestamp == n then max (mark_in n (v ∷ ws)) t else mark_in n (v ∷ ws))
  mark_in-read t n v [] r = at_test (v.timestamp == n)
    where
      at_test : (c : Bool) → (if c then max v.mark t else 0) ≡ (if c then max (if c then v.mark else 0) t else (if c then v.mark else 0))
      at_test true = refl
      at_test false = refl
  mark_in-read t n v (w ∷ ws) r = at_tests (nat_le w.timestamp t) (v.timestamp == n) (equals v.timestamp n) (mark_in-read t n w ws r.1)
    where
      skip : v.timestamp ≡ n → (c : Bool) → Equals (found t w ws).timestamp n c → v.mark ≡ (if c then max v.mark t else v.mark)
      skip here c (equal h) = let first : v.timestamp < w.timestamp = r.0 in let next : w.timestamp ≤ (found t w ws).timestamp = found-at_least t w ws r.1 in absurd (omega arith)
      skip here c (unequal h) = refl

      at_tests : (a b : Bool) → Equals v.timestamp n b
          → mark_in n (first_read t w ws ∷ others_read t w ws) ≡ (if (found t w ws).timestamp == n then max (mark_in n (w ∷ ws)) t else mark_in n (w ∷ ws))
          → mark_in n ((if a then v else read_by t v) ∷ (if a then first_read t w ws ∷ others_read t w ws else w ∷ ws))
          ≡ (if (if a then found t w ws else v).timestamp == n then max (if b then v.mark else mark_in n (w ∷ ws)) t else (if b then v.mark else mark_in n (w ∷ ws)))
      at_tests true b (equal h) rest = mark_in-first n v (first_read t w ws ∷ others_read t w ws) h ∙ skip h ((found t w ws).timestamp == n) (equals (found t w ws).timestamp n)
      at_tests true b (unequal h) rest = mark_in-rest n v (first_read t w ws ∷ others_read t w ws) h ∙ rest
      at_tests false b (equal h) rest = mark_in-first n (read_by t v) (w ∷ ws) h ∙ sym (ap (λ c. if c then max v.mark t else v.mark) (is_equal h))
        where
          is_equal : v.timestamp ≡ n → (v.timestamp == n) ≡ true
          is_equal e = elim_test (v.timestamp == n) (equals v.timestamp n)
            where
              elim_test : (c : Bool) → Equals v.timestamp n c → c ≡ true
              elim_test c (equal k) = refl
              elim_test c (unequal k) = absurd (k e)
      at_tests false b (unequal h) rest = mark_in-rest n (read_by t v) (w ∷ ws) h ∙ sym (ap (λ c. if c then max (mark_in n (w ∷ ws)) t else mark_in n (w ∷ ws)) (not_equal h))
        where
          not_equal : v.timestamp ≢ n → (v.timestamp == n) ≡ false
          not_equal e = elim_test (v.timestamp == n) (equals v.timestamp n)
            where
              elim_test : (c : Bool) → Equals v.timestamp n c → c ≡ false
              elim_test c (equal k) = absurd (e k)
              elim_test c (unequal k) = refl

  -- a new version
  mark_in-insert : (n : ℕ) (new : Version V) (vs : List (Version V)) → new.mark ≡ 0 → AllByRecursion (λ version. version.timestamp ≢ new.timestamp) vs → mark_in n (insert vs (count_not_above new.timestamp vs) new) ≡ mark_in n vs
  mark_in-insert n new [] none absent = at_test (new.timestamp == n)
    where
      at_test : (c : Bool) → (if c then new.mark else 0) ≡ 0
      at_test true = none
      at_test false = refl
  mark_in-insert n new (v ∷ vs) none absent = at_test (nat_le v.timestamp new.timestamp) (mark_in-insert n new vs none absent.1)
    where
      at_new : (c : Bool) → Equals new.timestamp n c → (if c then new.mark else mark_in n (v ∷ vs)) ≡ mark_in n (v ∷ vs)
      at_new c (equal h) = none ∙ sym (mark_in-absent n (v ∷ vs) (subst (λ m. AllByRecursion (λ version. version.timestamp ≢ m) (v ∷ vs)) h absent))
      at_new c (unequal h) = refl

      at_test : (c : Bool) → mark_in n (insert vs (count_not_above new.timestamp vs) new) ≡ mark_in n vs → mark_in n (insert (v ∷ vs) (if c then suc (count_not_above new.timestamp vs) else 0) new) ≡ mark_in n (v ∷ vs)
      at_test true rest = ap (λ m. if v.timestamp == n then v.mark else m) rest
      at_test false rest = at_new (new.timestamp == n) (equals new.timestamp n)

  -- the versions from the newest one not above a timestamp on
  mark_in-from : (low n : ℕ) (v : Version V) (ws : List (Version V)) → AreRising v.timestamp ws → (found low v ws).timestamp ≤ n → mark_in n (from low v ws) ≡ mark_in n (v ∷ ws)
  mark_in-from low n v [] r h = refl
  mark_in-from low n v (w ∷ ws) r h = at_test (nat_le w.timestamp low) h (λ k. mark_in-from low n w ws r.1 k)
    where
      at_test : (c : Bool) → (if c then found low w ws else v).timestamp ≤ n → ((found low w ws).timestamp ≤ n → mark_in n (from low w ws) ≡ mark_in n (w ∷ ws)) → mark_in n (if c then from low w ws else v ∷ w ∷ ws) ≡ mark_in n (v ∷ w ∷ ws)
      at_test true k rest = rest k ∙ sym (mark_in-rest n v (w ∷ ws) (let here : v.timestamp < w.timestamp = r.0 in let next : w.timestamp ≤ (found low w ws).timestamp = found-at_least low w ws r.1 in omega arith))
      at_test false k rest = refl

  mark_in-dropped : (low n : ℕ) (v : Version V) (ws : List (Version V)) → AreRising v.timestamp ws → n < (found low v ws).timestamp → mark_in n (from low v ws) ≡ 0
  mark_in-dropped low n v [] r h = mark_in-rest n v [] (omega arith)
  mark_in-dropped low n v (w ∷ ws) r h = at_test (nat_le w.timestamp low) h (λ k. mark_in-dropped low n w ws r.1 k)
    where
      at_test : (c : Bool) → n < (if c then found low w ws else v).timestamp → (n < (found low w ws).timestamp → mark_in n (from low w ws) ≡ 0) → mark_in n (if c then from low w ws else v ∷ w ∷ ws) ≡ 0
      at_test true k rest = rest k
      at_test false k rest = mark_in-rest n v (w ∷ ws) (omega arith) ∙ mark_in-below n v.timestamp (w ∷ ws) (omega arith) r

  -- what the code looks at: the count of versions not above the timestamp
  pub mark_in-none : (n : ℕ) (vs : List (Version V)) → IsChain vs → count_not_above n vs ≡ 0 → mark_in n vs ≡ 0
  mark_in-none n [] c none = absurd c
  mark_in-none n (v ∷ vs) c none = at_test (nat_le v.timestamp n) (at_most v.timestamp n) none
    where
      at_test : (b : Bool) → AtMost v.timestamp n b → (if b then suc (count_not_above n vs) else 0) ≡ 0 → mark_in n (v ∷ vs) ≡ 0
      at_test b (within k) e = absurd (omega arith)
      at_test b (above k) e = mark_in-rest n v vs (omega arith) ∙ mark_in-below n v.timestamp vs (omega arith) c

  first_not_above : (n : ℕ) (v : Version V) (vs : List (Version V)) → 0 < count_not_above n (v ∷ vs) → v.timestamp ≤ n
  first_not_above n v vs some = at_test (nat_le v.timestamp n) (at_most v.timestamp n) some
    where
      at_test : (b : Bool) → AtMost v.timestamp n b → 0 < (if b then suc (count_not_above n vs) else 0) → v.timestamp ≤ n
      at_test b (within k) e = k
      at_test b (above k) e = absurd (omega arith)

  held-found : (n i : ℕ) (u : Version V) (us : List (Version V)) (v : Version V) → i ≡ count_not_above n (u ∷ us) → i ≢ 0 → v ≡ get_or (u ∷ us) (i - 1) v → (u.timestamp ≤ n) × (v ≡ found n u us)
  held-found n i u us v count some is =
      let below : u.timestamp ≤ n = first_not_above n u us (omega (arith, count, some)) in
      (below, is ∙ ap (λ j. get_or (u ∷ us) (j - 1) v) count ∙ newest_at-found n u us v below)

  -- where the newest version not above a timestamp is at it, the mark there is that version's
  pub mark_in-held : (n i : ℕ) (vs : List (Version V)) (v : Version V) → IsChain vs → i ≡ count_not_above n vs → i ≢ 0 → v ≡ get_or vs (i - 1) v → v.timestamp ≡ n → v.mark ≡ mark_in n vs
  mark_in-held n i [] v c count some is here = absurd c
  mark_in-held n i (u ∷ us) v c count some is here =
      let f = held-found n i u us v count some is in
      ap (λ (w : Version V). w.mark) f.1 ∙ sym (mark_in-found n u us c) ∙ ap (λ m. mark_in m (u ∷ us)) (ap (λ (w : Version V). w.timestamp) (sym f.1) ∙ here)

  -- where the newest version not above a timestamp is not at it, the mark there is 0
  pub mark_in-not_held : (n i : ℕ) (vs : List (Version V)) (v : Version V) → IsChain vs → i ≡ count_not_above n vs → i ≢ 0 → v ≡ get_or vs (i - 1) v → v.timestamp ≢ n → 0 ≡ mark_in n vs
  mark_in-not_held n i [] v c count some is other = absurd c
  mark_in-not_held n i (u ∷ us) v c count some is other =
      let f = held-found n i u us v count some is in
      sym (mark_in-another n u us f.0 c (subst (λ (w : Version V). w.timestamp ≢ n) f.1 other))

pub every_mark_is_of_its_version_lem : (V : Type 0) → EveryMarkIsOfItsVersion V
every_mark_is_of_its_version_lem V t [] d c h = absurd c
every_mark_is_of_its_version_lem V t (v ∷ vs) d c h = subst (λ u. mark_in u.timestamp (v ∷ vs) ≡ u.mark) (sym (newest_at-found t v vs d h)) (mark_in-found t v vs c)

pub every_read_raises_one_mark_lem : (V : Type 0) → EveryReadRaisesOneMark V
every_read_raises_one_mark_lem V t n [] d c h = absurd c
every_read_raises_one_mark_lem V t n (v ∷ vs) d c h =
    ap (mark_in n) (versions_read_at-first t v vs h) ∙ mark_in-read t n v vs c ∙ ap (λ (u : Version V). if u.timestamp == n then max (mark_in n (v ∷ vs)) t else mark_in n (v ∷ vs)) (sym (newest_at-found t v vs d h))

pub every_install_keeps_marks_lem : (V : Type 0) → EveryInstallKeepsMarks V
every_install_keeps_marks_lem V t n value vs absent = mark_in-insert n (record { timestamp = t; mark = 0; value = value }) vs refl absent

pub every_prune_keeps_marks_lem : (V : Type 0) → EveryPruneKeepsMarks V
every_prune_keeps_marks_lem V low [] d c h = absurd c
every_prune_keeps_marks_lem V low (v ∷ vs) d c h =
    record {
      kept = λ n k. ap (mark_in n) (versions_from-from low v vs c) ∙ mark_in-from low n v vs c (subst (λ u. u.timestamp ≤ n) (newest_at-found low v vs d h) k);
      dropped = λ n k. ap (mark_in n) (versions_from-from low v vs c) ∙ mark_in-dropped low n v vs c (subst (λ u. n < u.timestamp) (newest_at-found low v vs d h) k);
    }
