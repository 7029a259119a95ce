-- The events keep the agreement of an item's versions with the entries.
use Rattle.std.proofs.Common.{◌≡◌, ℕ, suc, ◌-◌, ◌<◌, ◌≤◌, ◌≢◌, inl, inr, Bool, true, false, nat_lt, nat_le, ◌==◌, None, Some, List, [], ◌∷◌, refl, sym, ap, ◌∙◌, subst, arith, le-leb, max, zero, if◌then◌else◌, get_or}
use Rattle.std.specs.Map.{lookup}
use Rattle.std.specs.List.{AllByRecursion}
use Rattle.mv_chain.specs.declared.chain.Version.{Version}
use Rattle.mv_chain.specs.Versions.{count_not_above, IsChain, mark_in, marked_at_index, newest_at, oldest_timestamp, versions_from, versions_read_at, versions_with}
use Rattle.mv_chain.specs.Laws.{IsPrunedTo}
use Rattle.mv_chain.proofs.Found.{every_read_finds_the_newest_lem, every_install_is_found_lem, every_prune_keeps_reads_lem, every_read_marks_its_version_alone_lem}
use Rattle.mv_chain.proofs.Marks.{every_mark_is_of_its_version_lem}
use Rattle.mv_chain.proofs.Indexes.{versions_read_at-chain, versions_with-chain}
use Rattle.mv_history.specs.History.{Entry, IsRising, entries_with, version_below}
use Rattle.mv_history.specs.Laws.{IsVersionAfterCommit}
use Rattle.mv_history.proofs.Lists.{Compared, less, not_less, compared, Equals, equal, unequal, equals, all_insert, all_map}
use Rattle.mv_history.proofs.Newest.{every_version_below_is_newest_lem, every_commit_is_found_lem}
use Rattle.mv_chain.specs.Agreement.{HoldsVersions, IsVersionFound}
use Rattle.mv_chain.specs.AgreementLaws.{EveryCommitKeepsAgreement, EveryFirstVersionAgrees, EveryPruneKeepsAgreement, EveryReadKeepsAgreement, EveryWriteFollowsTheVersionBelow, NoVersionIsAtAFreshTimestamp}
use Rattle.mv_chain.proofs.Lists.{all_drop, all_contained, all_marked}

module _ {V : Type 0} where
  oldest_with : (t : ℕ) (value : V) (vs : List (Version V)) (low : ℕ) → IsChain vs → oldest_timestamp vs ≤ low → low ≤ t → oldest_timestamp (versions_with t value vs) ≤ low
  oldest_with t value [] low c h k = absurd c
  oldest_with t value (v ∷ vs) low c h k = rw (le-leb v.timestamp t (omega arith)) h

  oldest_read : (t : ℕ) (vs : List (Version V)) (low : ℕ) → oldest_timestamp vs ≤ low → oldest_timestamp (versions_read_at t vs) ≤ low
  oldest_read t [] low h = h
  oldest_read t (v ∷ vs) low h = at_index (count_not_above t (v ∷ vs) - 1)
    where
      at_index : (i : ℕ) → oldest_timestamp (marked_at_index i t (v ∷ vs)) ≤ low
      at_index zero = h
      at_index (suc i) = h

  newest_of_one : (t : ℕ) (v d : Version V) → newest_at t (v ∷ []) d ≡ v
  newest_of_one t v d = at_test (nat_le v.timestamp t)
    where
      at_test : (c : Bool) → get_or (v ∷ []) ((if c then 1 else 0) - 1) d ≡ v
      at_test true = refl
      at_test false = refl

module _ {Value V : Type 0} (give : Value → V) where
  -- the same version, found another way
  found_as : {v w : Version V} {f g : ℕ × Value} → v ≡ w → f ≡ g → IsVersionFound give w g → IsVersionFound give v f
  found_as {v} {w} {f} {g} e h k = subst (λ u. IsVersionFound give u f) (sym e) (subst (λ u. IsVersionFound give w u) (sym h) k)

  any_mark : (n : ℕ) (value : V) (m k : ℕ) (f : ℕ × Value) → IsVersionFound give (record { timestamp = n; mark = m; value = value }) f → IsVersionFound give (record { timestamp = n; mark = k; value = value }) f
  any_mark n value m k f h = record { timestamp = h.timestamp; value = h.value }

module _ {Item Value Outcome V : Type 0} (give : Value → V) (same : Item → Item → Bool) (base : Item → Value) where
  first_version : (low mark : ℕ) (x : Item) → HoldsVersions {Outcome = Outcome} give same base low [] x (record { timestamp = 0; mark = mark; value = give (base x) } ∷ [])
  first_version low mark x =
      record {
        chain = tt;
        old_enough = omega arith;
        found = λ t d above. found_as give (newest_of_one t (record { timestamp = 0; mark = mark; value = give (base x) }) d) refl (record { timestamp = refl; value = refl });
        held = (record { timestamp = refl; value = refl }, tt);
      }

  module _ (low : ℕ) (es : List (Entry Item Value Outcome)) (x : Item) (vs : List (Version V)) (holds : HoldsVersions give same base low es x vs) where
    pub after_read : (t : ℕ) → low ≤ t → HoldsVersions give same base low es x (versions_read_at t vs)
    after_read t above =
        record {
          chain = versions_read_at-chain t vs holds.chain;
          old_enough = oldest_read t vs low holds.old_enough;
          found = λ s d k. at_test s d k ((newest_at s vs d).timestamp == (newest_at t vs d).timestamp) (equals (newest_at s vs d).timestamp (newest_at t vs d).timestamp);
          held = all_marked (λ v. IsVersionFound give v (version_below same base es (suc v.timestamp) x)) (λ v mark h. any_mark give v.timestamp v.value v.mark mark _ h) (count_not_above t vs - 1) t vs holds.held;
        }
      where
        old : oldest_timestamp vs ≤ low
        old = holds.old_enough

        at_test : (s : ℕ) (d : Version V) → low ≤ s → (c : Bool) → Equals (newest_at s vs d).timestamp (newest_at t vs d).timestamp c → IsVersionFound give (newest_at s (versions_read_at t vs) d) (version_below same base es (suc s) x)
        at_test s d k c (equal e) =
            found_as give ((every_read_marks_its_version_alone_lem V t s vs d holds.chain (omega (arith, old)) (omega (arith, old))).same e) refl
            (any_mark give (newest_at s vs d).timestamp (newest_at s vs d).value (newest_at s vs d).mark (max (newest_at s vs d).mark t) _ (holds.found s d k))
        at_test s d k c (unequal e) = found_as give ((every_read_marks_its_version_alone_lem V t s vs d holds.chain (omega (arith, old)) (omega (arith, old))).another e) refl (holds.found s d k)

    pub fresh : IsRising 0 es → (t : ℕ) → 0 < t → AllByRecursion (λ e. e.timestamp ≢ t) es → AllByRecursion (λ version. version.timestamp ≢ t) vs
    fresh rising t positive none = all_map (λ v. IsVersionFound give v (version_below same base es (suc v.timestamp) x)) _ vs at_version holds.held
      where
        at_version : (v : Version V) → IsVersionFound give v (version_below same base es (suc v.timestamp) x) → v.timestamp ≢ t
        at_version v h e =
            elim ((every_version_below_is_newest_lem Item Value Outcome same base es rising (suc v.timestamp) x).written) [
              | inl is ↦ let zero_here : (version_below same base es (suc v.timestamp) x).0 ≡ 0 = ap (λ (u : ℕ × Value). u.0) is in omega (arith, h.timestamp, e, zero_here, positive)
              | inr s ↦ all_contained (λ (f : Entry Item Value Outcome). f.timestamp ≢ t) es s.0 none s.1.held (sym s.1.timestamp ∙ sym h.timestamp ∙ e)
            ]

    module _ (rising : IsRising 0 es) (e : Entry Item Value Outcome) (above_low : low ≤ e.timestamp) (absent : AllByRecursion (λ version. version.timestamp ≢ e.timestamp) vs) where
      pub after_unwritten : lookup (same x) e.writes ≡ None → HoldsVersions give same base low (entries_with e es) x vs
      after_unwritten none =
          record {
            chain = holds.chain;
            old_enough = holds.old_enough;
            found = λ t d k. found_as give refl ((every_commit_is_found_lem Item Value Outcome same base es rising e (suc t) x).unwritten none) (holds.found t d k);
            held = all_map (λ v. IsVersionFound give v (version_below same base es (suc v.timestamp) x)) _ vs (λ v h. found_as give refl ((every_commit_is_found_lem Item Value Outcome same base es rising e (suc v.timestamp) x).unwritten none) h) holds.held;
          }

      -- the version found from the low mark on is held, so it isn't at the entry's timestamp
      another : (t : ℕ) (d : Version V) → low ≤ t → (newest_at t vs d).timestamp ≢ e.timestamp
      another t d k =
          let old : oldest_timestamp vs ≤ low = holds.old_enough in
          all_contained (λ (version : Version V). version.timestamp ≢ e.timestamp) vs (newest_at t vs d) absent (every_read_finds_the_newest_lem V t vs d holds.chain (omega arith)).held

      pub after_written : (value : Value) → lookup (same x) e.writes ≡ Some value → HoldsVersions give same base low (entries_with e es) x (versions_with e.timestamp (give value) vs)
      after_written value writes =
          record {
            chain = versions_with-chain e.timestamp (give value) vs (omega (arith, holds.old_enough)) absent holds.chain;
            old_enough = oldest_with e.timestamp (give value) vs low holds.chain holds.old_enough above_low;
            found = λ t d k. by_time t d k (nat_lt t e.timestamp) (compared t e.timestamp);
            held = all_insert (λ v. IsVersionFound give v (version_below same base (entries_with e es) (suc v.timestamp) x)) vs (count_not_above e.timestamp vs) new
                (held_still vs absent holds.held) (found_as give refl own (record { timestamp = refl; value = refl }));
          }
        where
          new : Version V
          new = record { timestamp = e.timestamp; mark = 0; value = give value }

          commit_found : (t : ℕ) (y : Item) → IsVersionAfterCommit same base es e t y
          commit_found t y = every_commit_is_found_lem Item Value Outcome same base es rising e t y

          own : version_below same base (entries_with e es) (suc e.timestamp) x ≡ (e.timestamp, value)
          own =
              let old : oldest_timestamp vs ≤ low = holds.old_enough in
              let here : (newest_at e.timestamp vs new).timestamp ≤ e.timestamp = (every_read_finds_the_newest_lem V e.timestamp vs new holds.chain (omega arith)).not_above in
              let found : (newest_at e.timestamp vs new).timestamp ≡ (version_below same base es (suc e.timestamp) x).0 = (holds.found e.timestamp new above_low).timestamp in
              (commit_found (suc e.timestamp) x).found value writes (omega arith) (omega (arith, another e.timestamp new above_low))

          held_here : (v : Version V) → v.timestamp ≢ e.timestamp → IsVersionFound give v (version_below same base es (suc v.timestamp) x) → (c : Bool) → Compared v.timestamp e.timestamp c → IsVersionFound give v (version_below same base (entries_with e es) (suc v.timestamp) x)
          held_here v other h c (less k) = found_as give refl ((commit_found (suc v.timestamp) x).above (omega arith)) h
          held_here v other h c (not_less k) = found_as give refl ((commit_found (suc v.timestamp) x).older (omega (arith, other, h.timestamp))) h

          held_still : (us : List (Version V)) → AllByRecursion (λ version. version.timestamp ≢ e.timestamp) us → AllByRecursion (λ v. IsVersionFound give v (version_below same base es (suc v.timestamp) x)) us
              → AllByRecursion (λ v. IsVersionFound give v (version_below same base (entries_with e es) (suc v.timestamp) x)) us
          held_still [] a h = tt
          held_still (u ∷ us) a h = (held_here u a.0 h.0 (nat_lt u.timestamp e.timestamp) (compared u.timestamp e.timestamp), held_still us a.1 h.1)

          by_version : (t : ℕ) (d : Version V) → low ≤ t → e.timestamp ≤ t → (c : Bool) → Compared (newest_at t vs d).timestamp e.timestamp c → IsVersionFound give (newest_at t (versions_with e.timestamp (give value) vs) d) (version_below same base (entries_with e es) (suc t) x)
          by_version t d above reached c (less k) =
              let old : oldest_timestamp vs ≤ low = holds.old_enough in
              found_as give ((every_install_is_found_lem V e.timestamp t (give value) vs d holds.chain (omega arith) (omega arith) absent).found reached k)
              ((commit_found (suc t) x).found value writes (omega arith) (subst (λ m. m < e.timestamp) (holds.found t d above).timestamp k)) (record { timestamp = refl; value = refl })
          by_version t d above reached c (not_less k) =
              let old : oldest_timestamp vs ≤ low = holds.old_enough in
              let newer : e.timestamp < (newest_at t vs d).timestamp = omega (arith, another t d above) in
              found_as give ((every_install_is_found_lem V e.timestamp t (give value) vs d holds.chain (omega arith) (omega arith) absent).older newer)
              ((commit_found (suc t) x).older (subst (λ m. e.timestamp < m) (holds.found t d above).timestamp newer)) (holds.found t d above)

          by_time : (t : ℕ) (d : Version V) → low ≤ t → (c : Bool) → Compared t e.timestamp c → IsVersionFound give (newest_at t (versions_with e.timestamp (give value) vs) d) (version_below same base (entries_with e es) (suc t) x)
          by_time t d above c (less k) =
              let old : oldest_timestamp vs ≤ low = holds.old_enough in
              found_as give ((every_install_is_found_lem V e.timestamp t (give value) vs d holds.chain (omega arith) (omega arith) absent).above k) ((commit_found (suc t) x).above (omega arith)) (holds.found t d above)
          by_time t d above c (not_less k) = by_version t d above k (nat_lt (newest_at t vs d).timestamp e.timestamp) (compared (newest_at t vs d).timestamp e.timestamp)

    pub after_prune : (higher : ℕ) → low ≤ higher → HoldsVersions give same base higher es x (versions_from higher vs)
    after_prune higher h =
        record {
          chain = pruned.chain;
          old_enough = pruned.first_not_above (omega (arith, holds.old_enough));
          found = λ t d k. found_as give (pruned.reads t d k (omega (arith, holds.old_enough))) refl (holds.found t d (omega arith));
          held = all_drop (λ v. IsVersionFound give v (version_below same base es (suc v.timestamp) x)) (count_not_above higher vs - 1) vs holds.held;
        }
      where
        pruned : IsPrunedTo higher vs
        pruned = every_prune_keeps_reads_lem V higher vs holds.chain

    follows : (t : ℕ) (d : Version V) → low ≤ t → (newest_at t vs d).mark ≡ mark_in (version_below same base es (suc t) x).0 vs
    follows t d above = sym (every_mark_is_of_its_version_lem V t vs d holds.chain (omega (arith, holds.old_enough))) ∙ ap (λ n. mark_in n vs) (holds.found t d above).timestamp

pub every_first_version_agrees_lem : (Item Value Outcome V : Type 0) → EveryFirstVersionAgrees Item Value Outcome V
every_first_version_agrees_lem Item Value Outcome V give same base low mark x = first_version give same base low mark x

pub every_read_keeps_agreement_lem : (Item Value Outcome V : Type 0) → EveryReadKeepsAgreement Item Value Outcome V
every_read_keeps_agreement_lem Item Value Outcome V give same base low es x vs holds t above = after_read give same base low es x vs holds t above

pub no_version_is_at_a_fresh_timestamp_lem : (Item Value Outcome V : Type 0) → NoVersionIsAtAFreshTimestamp Item Value Outcome V
no_version_is_at_a_fresh_timestamp_lem Item Value Outcome V give same base low es x vs holds rising t positive none = fresh give same base low es x vs holds rising t positive none

pub every_commit_keeps_agreement_lem : (Item Value Outcome V : Type 0) → EveryCommitKeepsAgreement Item Value Outcome V
every_commit_keeps_agreement_lem Item Value Outcome V give same base low es x vs holds rising e above positive none =
    let absent = fresh give same base low es x vs holds rising e.timestamp positive none in
    (after_written give same base low es x vs holds rising e above absent, after_unwritten give same base low es x vs holds rising e above absent)

pub every_prune_keeps_agreement_lem : (Item Value Outcome V : Type 0) → EveryPruneKeepsAgreement Item Value Outcome V
every_prune_keeps_agreement_lem Item Value Outcome V give same base low es x vs holds higher above = after_prune give same base low es x vs holds higher above

pub every_write_follows_the_version_below_lem : (Item Value Outcome V : Type 0) → EveryWriteFollowsTheVersionBelow Item Value Outcome V
every_write_follows_the_version_below_lem Item Value Outcome V give same base low es x vs holds t d above = follows give same base low es x vs holds t d above
