-- Which version a read finds, by going along the versions from one that is not above its timestamp.
use Rattle.std.proofs.Common.{◌≡◌, ℕ, suc, ◌-◌, ◌<◌, ◌≤◌, ◌≢◌, max, insert, Bool, true, false, if◌then◌else◌, nat_le, List, [], ◌∷◌, length, drop, get_or, refl, sym, ap, ◌∙◌, subst, arith, le-leb}
use Rattle.std.specs.List.{AllByRecursion}
use Rattle.mv_chain.specs.declared.chain.Version.{Version}
use Rattle.mv_chain.specs.Versions.{count_not_above, IsChain, AreRising, newest_at, oldest_timestamp, marked_at_index, versions_read_at, versions_with, versions_from}
use Rattle.mv_chain.specs.Laws.{IsNewestAt, EveryReadFindsTheNewest, EveryReadMarksItsVersionAlone, EveryInstallIsFound, EveryPruneKeepsReads}
use Rattle.mv_history.proofs.Lists.{AtMost, above, at_most, within}

module _ {V : Type 0} where
  -- the newest of a version and those after it
  abbrev pub found : ℕ → Version V → List (Version V) → Version V
  found t v [] = v
  found t v (w ∷ ws) = if nat_le w.timestamp t then found t w ws else v

  -- where the first version is not above a timestamp, `found` gives the newest that is not
  pub newest_at-found : (t : ℕ) (v : Version V) (ws : List (Version V)) (d : Version V) → v.timestamp ≤ t → newest_at t (v ∷ ws) d ≡ found t v ws
  newest_at-found t v [] d h = rw (le-leb v.timestamp t h) refl
  newest_at-found t v (w ∷ ws) d h = rw (le-leb v.timestamp t h) (at_test (nat_le w.timestamp t) (at_most w.timestamp t) (λ k. newest_at-found t w ws d k))
    where
      at_test : (c : Bool) → AtMost w.timestamp t c → (w.timestamp ≤ t → newest_at t (w ∷ ws) d ≡ found t w ws)
          → get_or (v ∷ w ∷ ws) (suc (if c then suc (count_not_above t ws) else 0) - 1) d ≡ (if c then found t w ws else v)
      at_test c (within k) rest =
          let outer : suc (suc (count_not_above t ws)) - 1 ≡ suc (suc (count_not_above t ws) - 1) = omega arith in
          rw outer (subst (λ b. get_or (w ∷ ws) ((if b then suc (count_not_above t ws) else 0) - 1) d ≡ found t w ws) (le-leb w.timestamp t k) (rest k))
      at_test c (above k) rest = refl

  rising_above : (t bound : ℕ) (ws : List (Version V)) → t ≤ bound → AreRising bound ws → AllByRecursion (λ u. t < u.timestamp) ws
  rising_above t bound [] h r = tt
  rising_above t bound (w ∷ ws) h r = (omega arith, rising_above t w.timestamp ws (omega arith) r.1)

  none_greater : (t bound : ℕ) (ws : List (Version V)) → AllByRecursion (λ u. t < u.timestamp) ws → AllByRecursion (λ u. u.timestamp ≤ t → u.timestamp ≤ bound) ws
  none_greater t bound [] h = tt
  none_greater t bound (w ∷ ws) h = ((λ k. let a : t < w.timestamp = h.0 in absurd (omega arith)), none_greater t bound ws h.1)

  -- a read finds the newest
  pub found-newest : (t : ℕ) (v : Version V) (ws : List (Version V)) → v.timestamp ≤ t → AreRising v.timestamp ws → IsNewestAt t (v ∷ ws) (found t v ws)
  found-newest t v [] h r = record { held = (0, omega arith, refl); not_above = h; greatest = ((λ k. omega arith), tt) }
  found-newest t v (w ∷ ws) h r = at_test (nat_le w.timestamp t) (at_most w.timestamp t) (λ k. found-newest t w ws k r.1)
    where
      at_test : (c : Bool) → AtMost w.timestamp t c → (w.timestamp ≤ t → IsNewestAt t (w ∷ ws) (found t w ws)) → IsNewestAt t (v ∷ w ∷ ws) (if c then found t w ws else v)
      at_test c (within k) rest =
          let later : IsNewestAt t (w ∷ ws) (found t w ws) = rest k in
          let next : w.timestamp ≤ (found t w ws).timestamp = later.greatest.0 k in
          let here : v.timestamp < w.timestamp = r.0 in
          record {
            held = (suc later.held.0, let in_rest : later.held.0 < suc (length ws) = later.held.1 in omega arith, later.held.2);
            not_above = later.not_above;
            greatest = ((λ below. omega arith), later.greatest);
          }
      at_test c (above k) rest = record { held = (0, omega arith, refl); not_above = h; greatest = ((λ below. omega arith), none_greater t v.timestamp (w ∷ ws) (k, rising_above t w.timestamp ws (omega arith) r.1)) }

  -- versions from the newest one not above a timestamp on
  abbrev pub from : ℕ → Version V → List (Version V) → List (Version V)
  from low v [] = v ∷ []
  from low v (w ∷ ws) = if nat_le w.timestamp low then from low w ws else v ∷ w ∷ ws

  -- `from` gives the versions that pruning at a low mark leaves of a chain
  pub versions_from-from : (low : ℕ) (v : Version V) (ws : List (Version V)) → AreRising v.timestamp ws → versions_from low (v ∷ ws) ≡ from low v ws
  versions_from-from low v [] r = at_test (nat_le v.timestamp low)
    where
      at_test : (c : Bool) → drop ((if c then 1 else 0) - 1) (v ∷ []) ≡ v ∷ []
      at_test true = refl
      at_test false = refl
  versions_from-from low v (w ∷ ws) r = at_tests (nat_le v.timestamp low) (nat_le w.timestamp low) (at_most v.timestamp low) (at_most w.timestamp low) (versions_from-from low w ws r.1)
    where
      at_tests : (b c : Bool) → AtMost v.timestamp low b → AtMost w.timestamp low c → drop ((if c then suc (count_not_above low ws) else 0) - 1) (w ∷ ws) ≡ from low w ws
          → drop ((if b then suc (if c then suc (count_not_above low ws) else 0) else 0) - 1) (v ∷ w ∷ ws) ≡ (if c then from low w ws else v ∷ w ∷ ws)
      at_tests b c (within h) (within k) rest =
          let outer : suc (suc (count_not_above low ws)) - 1 ≡ suc (suc (count_not_above low ws) - 1) = omega arith in rw outer rest
      at_tests b c (within h) (above k) rest = refl
      at_tests b c (above h) (within k) rest = let here : v.timestamp < w.timestamp = r.0 in absurd (omega arith)
      at_tests b c (above h) (above k) rest = refl

  from-chain : (low : ℕ) (v : Version V) (ws : List (Version V)) → AreRising v.timestamp ws → IsChain (from low v ws)
  from-chain low v [] r = tt
  from-chain low v (w ∷ ws) r = at_test (nat_le w.timestamp low) (from-chain low w ws r.1)
    where
      at_test : (c : Bool) → IsChain (from low w ws) → IsChain (if c then from low w ws else v ∷ w ∷ ws)
      at_test true rest = rest
      at_test false rest = r

  from-first : (low : ℕ) (v : Version V) (ws : List (Version V)) → v.timestamp ≤ low → oldest_timestamp (from low v ws) ≤ low
  from-first low v [] h = h
  from-first low v (w ∷ ws) h = at_test (nat_le w.timestamp low) (at_most w.timestamp low) (λ k. from-first low w ws k)
    where
      at_test : (c : Bool) → AtMost w.timestamp low c → (w.timestamp ≤ low → oldest_timestamp (from low w ws) ≤ low) → oldest_timestamp (if c then from low w ws else v ∷ w ∷ ws) ≤ low
      at_test c (within k) rest = rest k
      at_test c (above k) rest = h

  from-rest : (low : ℕ) (v : Version V) (ws : List (Version V)) → AreRising v.timestamp ws → AllByRecursion (λ version. low < version.timestamp) (drop 1 (from low v ws))
  from-rest low v [] r = tt
  from-rest low v (w ∷ ws) r = at_test (nat_le w.timestamp low) (at_most w.timestamp low) (from-rest low w ws r.1)
    where
      at_test : (c : Bool) → AtMost w.timestamp low c → AllByRecursion (λ version. low < version.timestamp) (drop 1 (from low w ws)) → AllByRecursion (λ version. low < version.timestamp) (drop 1 (if c then from low w ws else v ∷ w ∷ ws))
      at_test c (within k) rest = rest
      at_test c (above k) rest = (k, rising_above low w.timestamp ws (omega arith) r.1)

  newest_at-from : (low t : ℕ) (v : Version V) (ws : List (Version V)) (d : Version V) → low ≤ t → v.timestamp ≤ t → newest_at t (from low v ws) d ≡ found t v ws
  newest_at-from low t v [] d h k = newest_at-found t v [] d k
  newest_at-from low t v (w ∷ ws) d h k = at_test (nat_le w.timestamp low) (at_most w.timestamp low) (λ m. newest_at-from low t w ws d h m)
    where
      at_test : (c : Bool) → AtMost w.timestamp low c → (w.timestamp ≤ t → newest_at t (from low w ws) d ≡ found t w ws) → newest_at t (if c then from low w ws else v ∷ w ∷ ws) d ≡ found t v (w ∷ ws)
      at_test c (within m) rest = rest (omega arith) ∙ sym (found-next t v w ws (omega arith))
        where
          found-next : (t : ℕ) (v w : Version V) (ws : List (Version V)) → w.timestamp ≤ t → found t v (w ∷ ws) ≡ found t w ws
          found-next t v w ws below = rw (le-leb w.timestamp t below) refl
      at_test c (above m) rest = newest_at-found t v (w ∷ ws) d k

  -- the version found is not older than the first
  pub found-at_least : (t : ℕ) (v : Version V) (ws : List (Version V)) → AreRising v.timestamp ws → v.timestamp ≤ (found t v ws).timestamp
  found-at_least t v [] r = omega arith
  found-at_least t v (w ∷ ws) r = at_test (nat_le w.timestamp t) (found-at_least t w ws r.1)
    where
      at_test : (c : Bool) → w.timestamp ≤ (found t w ws).timestamp → v.timestamp ≤ (if c then found t w ws else v).timestamp
      at_test true rest = let here : v.timestamp < w.timestamp = r.0 in omega arith
      at_test false rest = omega arith

  -- what was found before and after a version is added
  record IsFoundAfter (n t : ℕ) (new before after : Version V) : Type 0 where
    found : n ≤ t → before.timestamp < n → after ≡ new
    older : n < before.timestamp → after ≡ before
    above : t < n → after ≡ before

  found-insert : (t : ℕ) (new v : Version V) (ws : List (Version V)) → v.timestamp < new.timestamp → AreRising v.timestamp ws → AllByRecursion (λ u. u.timestamp ≢ new.timestamp) ws
      → IsFoundAfter new.timestamp t new (found t v ws) (found t v (insert ws (count_not_above new.timestamp ws) new))
  found-insert t new v [] h r fresh = at_test (nat_le new.timestamp t) (at_most new.timestamp t)
    where
      at_test : (c : Bool) → AtMost new.timestamp t c → IsFoundAfter new.timestamp t new v (if c then new else v)
      at_test c (within k) = record { found = λ a b. refl; older = λ a. absurd (omega arith); above = λ a. absurd (omega arith) }
      at_test c (above k) = record { found = λ a b. absurd (omega arith); older = λ a. refl; above = λ a. refl }
  found-insert t new v (w ∷ ws) h r fresh =
      at_tests (nat_le w.timestamp new.timestamp) (nat_le w.timestamp t) (nat_le new.timestamp t) (at_most w.timestamp new.timestamp) (at_most w.timestamp t) (at_most new.timestamp t) refl refl
      (λ k. found-insert t new w ws k r.1 fresh.1)
    where
      at_tests : (a b c : Bool) → AtMost w.timestamp new.timestamp a → AtMost w.timestamp t b → AtMost new.timestamp t c → nat_le w.timestamp t ≡ b → nat_le new.timestamp t ≡ c
          → (w.timestamp < new.timestamp → IsFoundAfter new.timestamp t new (found t w ws) (found t w (insert ws (count_not_above new.timestamp ws) new)))
          → IsFoundAfter new.timestamp t new (if b then found t w ws else v) (found t v (insert (w ∷ ws) (if a then suc (count_not_above new.timestamp ws) else 0) new))
      at_tests a b c (within i) (within j) k w_is new_is rest = rw w_is (rest (let other : w.timestamp ≢ new.timestamp = fresh.0 in omega arith))
      at_tests a b c (within i) (above j) k w_is new_is rest = rw w_is (record { found = λ x y. absurd (omega arith); older = λ x. refl; above = λ x. refl })
      at_tests a b c (above i) (within j) (within k) w_is new_is rest =
          let least : w.timestamp ≤ (found t w ws).timestamp = found-at_least t w ws r.1 in
          rw (new_is, w_is) (record { found = λ x y. absurd (omega arith); older = λ x. refl; above = λ x. absurd (omega arith) })
      at_tests a b c (above i) (within j) (above k) w_is new_is rest = absurd (omega arith)
      at_tests a b c (above i) (above j) (within k) w_is new_is rest = rw (new_is, w_is) (record { found = λ x y. refl; older = λ x. absurd (omega arith); above = λ x. absurd (omega arith) })
      at_tests a b c (above i) (above j) (above k) w_is new_is rest = rw new_is (record { found = λ x y. absurd (omega arith); older = λ x. refl; above = λ x. refl })

  -- the versions after a read, as the first of them and the others
  abbrev pub read_by : ℕ → Version V → Version V
  read_by r v = record v { mark = max v.mark r }

  abbrev pub first_read : ℕ → Version V → List (Version V) → Version V
  first_read r v [] = read_by r v
  first_read r v (w ∷ ws) = if nat_le w.timestamp r then v else read_by r v

  abbrev pub others_read : ℕ → Version V → List (Version V) → List (Version V)
  others_read r v [] = []
  others_read r v (w ∷ ws) = if nat_le w.timestamp r then first_read r w ws ∷ others_read r w ws else w ∷ ws

  first_read-timestamp : (r : ℕ) (v : Version V) (ws : List (Version V)) → (first_read r v ws).timestamp ≡ v.timestamp
  first_read-timestamp r v [] = refl
  first_read-timestamp r v (w ∷ ws) = at_test (nat_le w.timestamp r)
    where
      at_test : (c : Bool) → (if c then v else read_by r v).timestamp ≡ v.timestamp
      at_test true = refl
      at_test false = refl

  -- after a read not below the first version, the chain is `first_read` and then `others_read`
  pub versions_read_at-first : (r : ℕ) (v : Version V) (ws : List (Version V)) → v.timestamp ≤ r → versions_read_at r (v ∷ ws) ≡ first_read r v ws ∷ others_read r v ws
  versions_read_at-first r v [] h = rw (le-leb v.timestamp r h) refl
  versions_read_at-first r v (w ∷ ws) h = rw (le-leb v.timestamp r h) (at_test (nat_le w.timestamp r) (at_most w.timestamp r) (λ k. versions_read_at-first r w ws k))
    where
      at_test : (c : Bool) → AtMost w.timestamp r c → (w.timestamp ≤ r → versions_read_at r (w ∷ ws) ≡ first_read r w ws ∷ others_read r w ws)
          → marked_at_index (suc (if c then suc (count_not_above r ws) else 0) - 1) r (v ∷ w ∷ ws) ≡ (if c then v else read_by r v) ∷ (if c then first_read r w ws ∷ others_read r w ws else w ∷ ws)
      at_test c (within k) rest =
          let outer : suc (suc (count_not_above r ws)) - 1 ≡ suc (suc (count_not_above r ws) - 1) = omega arith in
          rw outer (ap (λ us. v ∷ us) (subst (λ b. marked_at_index ((if b then suc (count_not_above r ws) else 0) - 1) r (w ∷ ws) ≡ first_read r w ws ∷ others_read r w ws) (le-leb w.timestamp r k) (rest k)))
      at_test c (above k) rest = refl

  -- what was found before and after a read that found a version
  record IsFoundAfterRead (r : ℕ) (marked before after : Version V) : Type 0 where
    same : before.timestamp ≡ marked.timestamp → after ≡ read_by r before
    another : before.timestamp ≢ marked.timestamp → after ≡ before

  found-read : (r t : ℕ) (v : Version V) (ws : List (Version V)) → AreRising v.timestamp ws → IsFoundAfterRead r (found r v ws) (found t v ws) (found t (first_read r v ws) (others_read r v ws))
  found-read r t v [] rising = record { same = λ h. refl; another = λ h. absurd (h refl) }
  found-read r t v (w ∷ ws) rising =
      at_tests (nat_le w.timestamp r) (nat_le w.timestamp t) (at_most w.timestamp r) (at_most w.timestamp t) refl (ap (λ n. nat_le n t) (first_read-timestamp r w ws)) (found-read r t w ws rising.1)
    where
      at_tests : (a b : Bool) → AtMost w.timestamp r a → AtMost w.timestamp t b → nat_le w.timestamp t ≡ b → nat_le (first_read r w ws).timestamp t ≡ nat_le w.timestamp t
          → IsFoundAfterRead r (found r w ws) (found t w ws) (found t (first_read r w ws) (others_read r w ws))
          → IsFoundAfterRead r (if a then found r w ws else v) (if b then found t w ws else v) (found t (if a then v else read_by r v) (if a then first_read r w ws ∷ others_read r w ws else w ∷ ws))
      at_tests a b (within i) (within j) w_is first_is rest = rw (first_is, w_is) rest
      at_tests a b (within i) (above j) w_is first_is rest =
          let least : w.timestamp ≤ (found r w ws).timestamp = found-at_least r w ws rising.1 in
          let here : v.timestamp < w.timestamp = rising.0 in
          rw (first_is, w_is) (record { same = λ h. absurd (omega arith); another = λ h. refl })
      at_tests a b (above i) (within j) w_is first_is rest =
          let least : w.timestamp ≤ (found t w ws).timestamp = found-at_least t w ws rising.1 in
          let here : v.timestamp < w.timestamp = rising.0 in
          rw w_is (record { same = λ h. absurd (omega arith); another = λ h. refl })
      at_tests a b (above i) (above j) w_is first_is rest = rw w_is (record { same = λ h. refl; another = λ h. absurd (h refl) })

pub every_read_finds_the_newest_lem : (V : Type 0) → EveryReadFindsTheNewest V
every_read_finds_the_newest_lem V t [] d c h = absurd c
every_read_finds_the_newest_lem V t (v ∷ vs) d c h = subst (λ u. IsNewestAt t (v ∷ vs) u) (sym (newest_at-found t v vs d h)) (found-newest t v vs h c)

pub every_prune_keeps_reads_lem : (V : Type 0) → EveryPruneKeepsReads V
every_prune_keeps_reads_lem V low [] c = absurd c
every_prune_keeps_reads_lem V low (v ∷ vs) c =
    record {
      chain = rw (versions_from-from low v vs c) (from-chain low v vs c);
      first_not_above = λ h. rw (versions_from-from low v vs c) (from-first low v vs h);
      rest_above = rw (versions_from-from low v vs c) (from-rest low v vs c);
      reads = λ t d h k. ap (λ us. newest_at t us d) (versions_from-from low v vs c) ∙ newest_at-from low t v vs d h k ∙ sym (newest_at-found t v vs d k);
    }

pub every_install_is_found_lem : (V : Type 0) → EveryInstallIsFound V
every_install_is_found_lem V n t value [] d c old_enough below fresh = absurd c
every_install_is_found_lem V n t value (v ∷ vs) d c old_enough below fresh =
    record {
      found = λ h k. after ∙ added.found h (subst (λ u. u.timestamp < n) before k);
      older = λ h. after ∙ added.older (subst (λ u. n < u.timestamp) before h) ∙ sym before;
      above = λ h. after ∙ added.above h ∙ sym before;
    }
  where
    before : newest_at t (v ∷ vs) d ≡ found t v vs
    before = newest_at-found t v vs d below

    after : newest_at t (versions_with n value (v ∷ vs)) d ≡ found t v (insert vs (count_not_above n vs) (record { timestamp = n; mark = 0; value = value }))
    after = rw (le-leb v.timestamp n old_enough) (newest_at-found t v (insert vs (count_not_above n vs) (record { timestamp = n; mark = 0; value = value })) d below)

    added : IsFoundAfter n t (record { timestamp = n; mark = 0; value = value }) (found t v vs) (found t v (insert vs (count_not_above n vs) (record { timestamp = n; mark = 0; value = value })))
    added = found-insert t (record { timestamp = n; mark = 0; value = value }) v vs (let other : v.timestamp ≢ n = fresh.0 in omega arith) c fresh.1

pub every_read_marks_its_version_alone_lem : (V : Type 0) → EveryReadMarksItsVersionAlone V
every_read_marks_its_version_alone_lem V r t [] d c r_below t_below = absurd c
every_read_marks_its_version_alone_lem V r t (v ∷ vs) d c r_below t_below =
    record {
      same = λ h. after ∙ read.same (subst (λ u. u.timestamp ≡ (found r v vs).timestamp) before (subst (λ u. (newest_at t (v ∷ vs) d).timestamp ≡ u.timestamp) marked h)) ∙ ap (read_by r) (sym before);
      another = λ h. after ∙ read.another (subst (λ u. u.timestamp ≢ (found r v vs).timestamp) before (subst (λ u. (newest_at t (v ∷ vs) d).timestamp ≢ u.timestamp) marked h)) ∙ sym before;
    }
  where
    before : newest_at t (v ∷ vs) d ≡ found t v vs
    before = newest_at-found t v vs d t_below

    marked : newest_at r (v ∷ vs) d ≡ found r v vs
    marked = newest_at-found r v vs d r_below

    after : newest_at t (versions_read_at r (v ∷ vs)) d ≡ found t (first_read r v vs) (others_read r v vs)
    after =
        ap (λ us. newest_at t us d) (versions_read_at-first r v vs r_below)
        ∙ newest_at-found t (first_read r v vs) (others_read r v vs) d (let first : (first_read r v vs).timestamp ≡ v.timestamp = first_read-timestamp r v vs in omega arith)

    read : IsFoundAfterRead r (found r v vs) (found t v vs) (found t (first_read r v vs) (others_read r v vs))
    read = found-read r t v vs c
