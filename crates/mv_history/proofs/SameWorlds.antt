-- Worlds that differ in marks that don't count stay so.
use Rattle.std.proofs.Common.{◌≡◌, ℕ, suc, ◌<◌, ◌≤◌, Bool, true, false, if◌then◌else◌, nat_lt, ◌&&◌, ◌==◌, min, max, ◌+◌, Option, Some, None, List, [], ◌∷◌, ◌++◌, refl, sym, ap, ◌∙◌, subst, arith, le_trans}
use Rattle.std.specs.Map.{lookup}
use Rattle.mv_history.specs.History.{Entry, IsRising, entries_with, newest_version, version_after, version_below}
use Rattle.mv_history.specs.World.{World, Mark, Event, Begin, Read, Commit, Abandon, Prune, IsInTime, after_event, after_read, attempts_with_read, attempts_without, fresh_attempt, greatest_mark, low_after_prune, lowest_live}
use Rattle.mv_history.specs.SameWorlds.{HaveSameMarks, IsSameEvent, IsSameWorld, SameCommitsAreInTime, SameEventsLeadToSameWorlds}
use Rattle.mv_history.proofs.Lists.{Compared, less, not_less, compared, all_map}
use Rattle.mv_history.proofs.Worlds.{greatest_mark-push}

module _ {Item Value Outcome : Type 0} (same : Item → Item → Bool) where
  -- a later timestamp finds a version that is not older
  pub newest_version-monotone : (s t bound : ℕ) (es : List (Entry Item Value Outcome)) (x : Item) (v w : ℕ × Value) → s ≤ t → IsRising bound es → v.0 ≤ bound → v.0 ≤ w.0
      → (newest_version same s es x v).0 ≤ (newest_version same t es x w).0
  newest_version-monotone s t bound [] x v w h r old k = k
  newest_version-monotone s t bound (e ∷ es) x v w h r old k =
      at_tests (nat_lt e.timestamp s) (nat_lt e.timestamp t) (lookup (same x) e.writes) (compared e.timestamp s) (compared e.timestamp t) (λ a b. newest_version-monotone s t e.timestamp es x a b h r.1)
    where
      at_tests : (a b : Bool) (o : Option Value) → Compared e.timestamp s a → Compared e.timestamp t b
          → ((a b : ℕ × Value) → a.0 ≤ e.timestamp → a.0 ≤ b.0 → (newest_version same s es x a).0 ≤ (newest_version same t es x b).0)
          → (newest_version same s es x (version_after a o e.timestamp v)).0 ≤ (newest_version same t es x (version_after b o e.timestamp w)).0
      at_tests a b (Some y) (less p) (less q) rest = rest (e.timestamp, y) (e.timestamp, y) (omega arith) (omega arith)
      at_tests a b None (less p) (less q) rest = rest v w (omega (arith, r.0)) k
      at_tests a b o (less p) (not_less q) rest = absurd (omega arith)
      at_tests a b (Some y) (not_less p) (less q) rest = rest v (e.timestamp, y) (omega (arith, r.0)) (omega (arith, r.0))
      at_tests a b None (not_less p) (less q) rest = rest v w (omega (arith, r.0)) k
      at_tests a b o (not_less p) (not_less q) rest = rest v w (omega (arith, r.0)) k

  -- one more entry leaves no older version
  pub newest_version-grows : (e : Entry Item Value Outcome) (t bound : ℕ) (es : List (Entry Item Value Outcome)) (x : Item) (v : ℕ × Value) → IsRising bound es → v.0 ≤ bound → v.0 ≤ e.timestamp
      → (newest_version same t es x v).0 ≤ (newest_version same t (entries_with e es) x v).0
  newest_version-grows e t bound [] x v r old h = at_tests (nat_lt e.timestamp t) (lookup (same x) e.writes)
    where
      at_tests : (c : Bool) (o : Option Value) → v.0 ≤ (version_after c o e.timestamp v).0
      at_tests true (Some y) = h
      at_tests true None = omega arith
      at_tests false o = omega arith
  newest_version-grows e t bound (f ∷ fs) x v r old h = at_order (nat_lt e.timestamp f.timestamp) (compared e.timestamp f.timestamp) (λ w k. newest_version-grows e t f.timestamp fs x w r.1 k)
    where
      at_first : e.timestamp < f.timestamp → (c : Bool) (o : Option Value) → (newest_version same t (f ∷ fs) x v).0 ≤ (newest_version same t (f ∷ fs) x (version_after c o e.timestamp v)).0
      at_first k true (Some y) = newest_version-monotone t t e.timestamp (f ∷ fs) x v (e.timestamp, y) (omega arith) (k, r.1) h h
      at_first k true None = omega arith
      at_first k false o = omega arith

      after_f-old : (c : Bool) (o : Option Value) → (version_after c o f.timestamp v).0 ≤ f.timestamp
      after_f-old true (Some y) = omega arith
      after_f-old true None = omega (arith, r.0)
      after_f-old false o = omega (arith, r.0)

      after_f-below : f.timestamp ≤ e.timestamp → (c : Bool) (o : Option Value) → (version_after c o f.timestamp v).0 ≤ e.timestamp
      after_f-below k true (Some y) = k
      after_f-below k true None = h
      after_f-below k false o = h

      at_order : (c : Bool) → Compared e.timestamp f.timestamp c
          → ((w : ℕ × Value) → w.0 ≤ f.timestamp → w.0 ≤ e.timestamp → (newest_version same t fs x w).0 ≤ (newest_version same t (entries_with e fs) x w).0)
          → (newest_version same t (f ∷ fs) x v).0 ≤ (newest_version same t (if c then e ∷ f ∷ fs else f ∷ entries_with e fs) x v).0
      at_order c (less k) rest = at_first k (nat_lt e.timestamp t) (lookup (same x) e.writes)
      at_order c (not_less k) rest =
          rest (version_after (nat_lt f.timestamp t) (lookup (same x) f.writes) f.timestamp v) (after_f-old (nat_lt f.timestamp t) (lookup (same x) f.writes)) (after_f-below k (nat_lt f.timestamp t) (lookup (same x) f.writes))

module _ {Item Value Outcome : Type 0} (same : Item → Item → Bool) (base : Item → Value) where
  -- neither a later timestamp nor one more entry leads to an older version of an item
  pub version_below-monotone : (s t : ℕ) (es : List (Entry Item Value Outcome)) (x : Item) → s ≤ t → IsRising 0 es → (version_below same base es s x).0 ≤ (version_below same base es t x).0
  version_below-monotone s t es x h r = newest_version-monotone same s t 0 es x (0, base x) (0, base x) h r (omega arith) (omega arith)

  pub version_below-grows : (e : Entry Item Value Outcome) (t : ℕ) (es : List (Entry Item Value Outcome)) (x : Item) → IsRising 0 es → (version_below same base es t x).0 ≤ (version_below same base (entries_with e es) t x).0
  version_below-grows e t es x r = newest_version-grows same e t 0 es x (0, base x) r (omega arith) (omega arith)

  pub same_world-itself : (w : World Item Value Outcome) → IsSameWorld same base w w
  same_world-itself w = record { clock = refl; low = refl; entries = refl; live = refl; marks = λ x version above. refl }

  pub same_world-trans : (u v w : World Item Value Outcome) → IsSameWorld same base u v → IsSameWorld same base v w → IsSameWorld same base u w
  same_world-trans u v w h k =
      record {
        clock = h.clock ∙ k.clock;
        low = h.low ∙ k.low;
        entries = h.entries ∙ k.entries;
        live = h.live ∙ k.live;
        marks = λ x version above. h.marks x version above ∙ k.marks x version (counts x version above);
      }
    where
      counts : (x : Item) (version : ℕ) → (version_below same base u.entries (suc u.low) x).0 ≤ version → (version_below same base v.entries (suc v.low) x).0 ≤ version
      counts x version above = subst (λ low. (version_below same base v.entries (suc low) x).0 ≤ version) h.low (subst (λ es. (version_below same base es (suc u.low) x).0 ≤ version) h.entries above)

  pub same_world-sym : (w v : World Item Value Outcome) → IsSameWorld same base w v → IsSameWorld same base v w
  same_world-sym w v h =
      record { clock = sym h.clock; low = sym h.low; entries = sym h.entries; live = sym h.live; marks = λ x version above. sym (h.marks x version (counts x version above)) }
    where
      counts : (x : Item) (version : ℕ) → (version_below same base v.entries (suc v.low) x).0 ≤ version → (version_below same base w.entries (suc w.low) x).0 ≤ version
      counts x version above = subst (λ low. (version_below same base w.entries (suc low) x).0 ≤ version) (sym h.low) (subst (λ es. (version_below same base es (suc v.low) x).0 ≤ version) (sym h.entries) above)

  -- one more mark in both
  marks_with : (low : ℕ) (es : List (Entry Item Value Outcome)) (m : Mark Item) (marks marks' : List (Mark Item)) → HaveSameMarks same base low es marks marks' → HaveSameMarks same base low es (marks ++ m ∷ []) (marks' ++ m ∷ [])
  marks_with low es m marks marks' h x version above =
      greatest_mark-push same m marks x version
      ∙ ap (λ n. if same x m.item && (m.version == version) then max m.reader n else n) (h x version above)
      ∙ sym (greatest_mark-push same m marks' x version)

  after_same_read : (w v : World Item Value Outcome) (t index : ℕ) (x : Item) → IsSameWorld same base w v → IsSameWorld same base (after_read same base w t index x) (after_read same base v t index x)
  after_same_read w v t index x h =
      record {
        clock = h.clock;
        low = h.low;
        entries = h.entries;
        live = ap (λ found. attempts_with_read t index (x, found.1) w.live) same_found ∙ ap (attempts_with_read t index (x, (version_below same base v.entries (suc t) x).1)) h.live;
        marks = subst (λ (found : ℕ × Value). HaveSameMarks same base w.low w.entries (w.marks ++ mark_of (version_below same base w.entries (suc t) x) ∷ []) (v.marks ++ mark_of found ∷ [])) same_found
            (marks_with w.low w.entries (mark_of (version_below same base w.entries (suc t) x)) w.marks v.marks h.marks);
      }
    where
      same_found : version_below same base w.entries (suc t) x ≡ version_below same base v.entries (suc t) x
      same_found = ap (λ es. version_below same base es (suc t) x) h.entries

      mark_of : ℕ × Value → Mark Item
      mark_of found = record { item = x; version = found.0; reader = t }

  pub after_same_event : (w v : World Item Value Outcome) → IsRising 0 w.entries → IsSameWorld same base w v → (event event' : Event Item Value Outcome) → IsSameEvent same base w event event'
      → IsSameWorld same base (after_event same base w event) (after_event same base v event')
  after_same_event w v r h (Begin number) event' is = subst (λ f. IsSameWorld same base (after_event same base w (Begin number)) (after_event same base v f)) is
      (record { clock = ap (λ n. n + 1) h.clock; low = h.low; entries = h.entries; live = ap (λ n. w.live ++ fresh_attempt number (n + 1) ∷ []) h.clock ∙ ap (λ l. l ++ fresh_attempt number (v.clock + 1) ∷ []) h.live; marks = h.marks })
  after_same_event w v r h (Read t index x) event' is = subst (λ f. IsSameWorld same base (after_event same base w (Read t index x)) (after_event same base v f)) is (after_same_read w v t index x h)
  after_same_event w v r h (Commit e) event' is = subst (λ f. IsSameWorld same base (after_event same base w (Commit e)) (after_event same base v f)) is
      (record {
        clock = h.clock;
        low = h.low;
        entries = ap (entries_with e) h.entries;
        live = ap (attempts_without e.timestamp) h.live;
        marks = λ x version above. h.marks x version (le_trans (version_below-grows e (suc w.low) w.entries x r) above);
      })
  after_same_event w v r h (Abandon t) event' is = subst (λ f. IsSameWorld same base (after_event same base w (Abandon t)) (after_event same base v f)) is
      (record { clock = h.clock; low = h.low; entries = h.entries; live = ap (attempts_without t) h.live; marks = h.marks })
  after_same_event w v r h (Prune t marks) (Prune u marks') is = record { clock = h.clock; low = same_low; entries = h.entries; live = h.live; marks = is.1 }
    where
      same_low : low_after_prune w t ≡ low_after_prune v u
      same_low = ap (λ n. max n (lowest_live (min t w.clock) w.live)) h.low ∙ ap (λ n. max v.low (lowest_live (min n w.clock) w.live)) is.0
          ∙ ap (λ n. max v.low (lowest_live (min u n) w.live)) h.clock ∙ ap (λ l. max v.low (lowest_live (min u v.clock) l)) h.live
  after_same_event w v r h (Prune t marks) (Begin number) is = absurd cc
  after_same_event w v r h (Prune t marks) (Read u index x) is = absurd cc
  after_same_event w v r h (Prune t marks) (Commit e) is = absurd cc
  after_same_event w v r h (Prune t marks) (Abandon u) is = absurd cc

  -- what commits in time in a world, from the low mark on, does so in each world that is the same
  pub in_time-same : (w v : World Item Value Outcome) → IsRising 0 w.entries → IsSameWorld same base w v → (e : Entry Item Value Outcome) → w.low ≤ e.timestamp
      → IsInTime same base (greatest_mark same w.marks) w.entries e → IsInTime same base (greatest_mark same v.marks) v.entries e
  in_time-same w v r h e above in_time =
      subst (λ es. IsInTime same base (greatest_mark same v.marks) es e) h.entries
      (all_map (λ write. greatest_mark same w.marks write.0 (version_below same base w.entries (suc e.timestamp) write.0).0 ≤ e.timestamp) _ e.writes
      (λ write k. subst (λ n. n ≤ e.timestamp) (h.marks write.0 (version_below same base w.entries (suc e.timestamp) write.0).0 (version_below-monotone (suc w.low) (suc e.timestamp) w.entries write.0 (omega arith) r)) k) in_time)

pub same_events_lead_to_same_worlds_lem : (Item Value Outcome : Type 0) → SameEventsLeadToSameWorlds Item Value Outcome
same_events_lead_to_same_worlds_lem Item Value Outcome same base w v rising h event event' is = after_same_event same base w v rising h event event' is

pub same_commits_are_in_time_lem : (Item Value Outcome : Type 0) → SameCommitsAreInTime Item Value Outcome
same_commits_are_in_time_lem Item Value Outcome same base w v rising h e above =
    (in_time-same same base w v rising h e above, in_time-same same base v w (subst (IsRising 0) h.entries rising) (same_world-sym same base w v h) e (subst (λ n. n ≤ e.timestamp) h.low above))
