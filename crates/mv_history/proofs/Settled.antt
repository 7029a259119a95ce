-- Settled entries stay: the low mark that a prune would make never falls, and no commit is below it.
use Rattle.std.proofs.Common.{◌≡◌, ℕ, suc, ◌+◌, ◌≤◌, Bool, true, false, if◌then◌else◌, cond, not, nat_le, nat_lt, ◌==◌, min, max, Some, IsSome, List, [], ◌∷◌, ◌++◌, insert, take, refl, sym, ap, ◌∙◌, subst, arith, le_trans}
use Rattle.std.proofs.lemmas.List.{take-take}
use Rattle.mv_history.specs.History.{Entry, CallMeaning, IsEquality, entries_with, version_below}
use Rattle.mv_history.specs.World.{World, Attempt, Event, Begin, Read, Commit, Abandon, Prune, AllApply, Applies, IsLowerBound, IsReachable, after_event, after_events, attempt_at, attempts_with_read, attempts_without, fresh_attempt, greatest_mark, low_after_prune, lowest_live}
use Rattle.mv_history.specs.Schedule.{IsConsistent, IsConsistentWorld}
use Rattle.mv_history.specs.Settled.{CommitsLive, EveryEventKeepsSettledEntries, EverySettledEntryStays, StaySettled, entries_not_above, settled_count}
use Rattle.mv_history.proofs.Lists.{AtMost, within, above, at_most, Compared, less, not_less, compared, Equals, equal, unequal, equals}
use Rattle.mv_history.proofs.Attempts.{pruned_below}
use Rattle.mv_history.proofs.Worlds.{consistent, consistent_after_event}

module _ {Item Value Outcome : Type 0} where
  entries_not_above-monotone : (s t : ℕ) (es : List (Entry Item Value Outcome)) → s ≤ t → entries_not_above s es ≤ entries_not_above t es
  entries_not_above-monotone s t [] h = omega arith
  entries_not_above-monotone s t (e ∷ es) h = at_tests (nat_le e.timestamp s) (at_most e.timestamp s) (nat_le e.timestamp t) (at_most e.timestamp t) (entries_not_above-monotone s t es h)
    where
      at_tests : (b : Bool) → AtMost e.timestamp s b → (c : Bool) → AtMost e.timestamp t c → entries_not_above s es ≤ entries_not_above t es
          → (if b then suc (entries_not_above s es) else 0) ≤ (if c then suc (entries_not_above t es) else 0)
      at_tests b (within k) c (within l) rest = omega (arith, rest)
      at_tests b (within k) c (above l) rest = absurd (omega (arith, h, k, l))
      at_tests b (above k) c l rest = omega arith

  -- an entry that is not below a timestamp leaves those not above it as they are
  abbrev StaysBelow : ℕ → Entry Item Value Outcome → List (Entry Item Value Outcome) → Type 0
  StaysBelow t e es = (take (entries_not_above t es) (entries_with e es) ≡ take (entries_not_above t es) es) × (entries_not_above t es ≤ entries_not_above t (entries_with e es))

  entries_with-stays : (t : ℕ) (e : Entry Item Value Outcome) (es : List (Entry Item Value Outcome)) → t ≤ e.timestamp → StaysBelow t e es
  entries_with-stays t e [] h = (refl, omega arith)
  entries_with-stays t e (f ∷ fs) h = at_tests (nat_le f.timestamp t) (at_most f.timestamp t) (nat_lt e.timestamp f.timestamp) (compared e.timestamp f.timestamp) (entries_with-stays t e fs h)
    where
      count : Bool → ℕ
      count b = if b then suc (entries_not_above t fs) else 0

      at_tests : (b : Bool) → AtMost f.timestamp t b → (c : Bool) → Compared e.timestamp f.timestamp c → StaysBelow t e fs
          → (take (count b) (if c then e ∷ f ∷ fs else f ∷ entries_with e fs) ≡ take (count b) (f ∷ fs)) × (count b ≤ entries_not_above t (if c then e ∷ f ∷ fs else f ∷ entries_with e fs))
      at_tests b (within k) c (less l) rest = absurd (omega (arith, h, k, l))
      at_tests b (within k) c (not_less l) rest = (ap (λ l. f ∷ l) rest.0, at_first (nat_le f.timestamp t) (at_most f.timestamp t))
        where
          at_first : (d : Bool) → AtMost f.timestamp t d → suc (entries_not_above t fs) ≤ (if d then suc (entries_not_above t (entries_with e fs)) else 0)
          at_first d (within m) = omega (arith, rest.1)
          at_first d (above m) = absurd (omega (arith, k, m))
      at_tests b (above k) c l rest = (refl, omega arith)

-- ---- the least live timestamp

module _ {Item Value : Type 0} where
  lowest_live-monotone : (bound more : ℕ) (live : List (Attempt Item Value)) → bound ≤ more → lowest_live bound live ≤ lowest_live more live
  lowest_live-monotone bound more [] h = h
  lowest_live-monotone bound more (a ∷ as') h = omega (arith, lowest_live-monotone bound more as' h)

  lowest_live-push : (bound : ℕ) (a : Attempt Item Value) (live : List (Attempt Item Value)) → bound ≤ a.timestamp → lowest_live bound live ≤ lowest_live bound (live ++ a ∷ [])
  lowest_live-push bound a [] h = omega (arith, h)
  lowest_live-push bound a (b ∷ bs) h = omega (arith, lowest_live-push bound a bs h)

  lowest_live-with_read : (bound t index : ℕ) (read : Item × Value) (live : List (Attempt Item Value)) → lowest_live bound (attempts_with_read t index read live) ≡ lowest_live bound live
  lowest_live-with_read bound t index read [] = refl
  lowest_live-with_read bound t index read (a ∷ as') = at_test (a.timestamp == t) (lowest_live-with_read bound t index read as')
    where
      at_test : (c : Bool) → lowest_live bound (attempts_with_read t index read as') ≡ lowest_live bound as'
          → lowest_live bound (if c then record a { reads = insert a.reads index read } ∷ as' else a ∷ attempts_with_read t index read as') ≡ lowest_live bound (a ∷ as')
      at_test true rest = refl
      at_test false rest = ap (λ k. min a.timestamp k) rest

  lowest_live-without : (bound t : ℕ) (live : List (Attempt Item Value)) → lowest_live bound live ≤ lowest_live bound (attempts_without t live)
  lowest_live-without bound t [] = omega arith
  lowest_live-without bound t (a ∷ as') = at_test (a.timestamp == t) (lowest_live-without bound t as')
    where
      at_test : (c : Bool) → lowest_live bound as' ≤ lowest_live bound (attempts_without t as')
          → lowest_live bound (a ∷ as') ≤ lowest_live bound (cond (not c) (a ∷ attempts_without t as') (attempts_without t as'))
      at_test true rest = omega (arith, rest)
      at_test false rest = omega (arith, rest)

  bound_found : (bound t : ℕ) (live : List (Attempt Item Value)) → IsLowerBound bound live → IsSome (attempt_at t live) → bound ≤ t
  bound_found bound t [] h k = absurd cc
  bound_found bound t (a ∷ as') h k = at_test (a.timestamp == t) (equals a.timestamp t) k (λ l. bound_found bound t as' h.1 l)
    where
      at_test : (c : Bool) → Equals a.timestamp t c → IsSome (if c then Some a else attempt_at t as') → (IsSome (attempt_at t as') → bound ≤ t) → bound ≤ t
      at_test c (equal e) there rest = subst (λ u. bound ≤ u) e h.0
      at_test c (unequal e) there rest = rest there

-- ---- events

module _ {Item Value Outcome : Type 0} (same : Item → Item → Bool) (Proper : (Item → Value) → Type 0) (means : CallMeaning Item Value Outcome) (base : Item → Value) where
  pub settled_after_event : (mark : Item → ℕ → ℕ) (w : World Item Value Outcome) (event : Event Item Value Outcome)
      → IsConsistent same Proper means base mark w.clock w.low w.entries w.live → CommitsLive w event → StaySettled w (after_event same base w event)
  settled_after_event mark w (Begin number) k live =
      record {
        same_entries = refl;
        no_fewer = entries_not_above-monotone _ _ w.entries (omega (
          arith,
          lowest_live-monotone (min w.clock w.clock) (min (w.clock + 1) (w.clock + 1)) w.live (omega arith),
          lowest_live-push (min (w.clock + 1) (w.clock + 1)) (fresh_attempt number (w.clock + 1)) w.live (omega arith),
        ));
      }
  settled_after_event mark w (Read t index x) k live =
      record {
        same_entries = refl;
        no_fewer = entries_not_above-monotone _ _ w.entries (omega (arith, lowest_live-with_read (min w.clock w.clock) t index (x, (version_below same base w.entries (suc t) x).1) w.live));
      }
  settled_after_event mark w (Commit e) k live =
      record { same_entries = stays.0; no_fewer = le_trans stays.1 (entries_not_above-monotone _ _ (entries_with e w.entries) (omega (arith, lowest_live-without (min w.clock w.clock) e.timestamp w.live))) }
    where
      stays : StaysBelow (low_after_prune w w.clock) e w.entries
      stays = entries_with-stays (low_after_prune w w.clock) e w.entries (bound_found (low_after_prune w w.clock) e.timestamp w.live (pruned_below w.low (min w.clock w.clock) w.live k.schedule.low_live) live)
  settled_after_event mark w (Abandon t) k live =
      record { same_entries = refl; no_fewer = entries_not_above-monotone _ _ w.entries (omega (arith, lowest_live-without (min w.clock w.clock) t w.live)) }
  settled_after_event mark w (Prune t marks) k live =
      record { same_entries = refl; no_fewer = entries_not_above-monotone _ _ w.entries (omega arith) }

  -- a commit that applies is of a live attempt
  commits_live : (w : World Item Value Outcome) (event : Event Item Value Outcome) → Applies same Proper means base w event → CommitsLive w event
  commits_live w (Begin number) applies = tt
  commits_live w (Read t index x) applies = tt
  commits_live w (Commit e) applies = subst IsSome (sym applies.1) refl
  commits_live w (Abandon t) applies = tt
  commits_live w (Prune t marks) applies = tt

  settled_on : (u v w : World Item Value Outcome) → StaySettled u v → StaySettled v w → StaySettled u w
  settled_on u v w h k =
      record {
        same_entries = sym (take-take (settled_count u) (settled_count v) w.entries h.no_fewer) ∙ ap (take (settled_count u)) k.same_entries
            ∙ take-take (settled_count u) (settled_count v) v.entries h.no_fewer ∙ h.same_entries;
        no_fewer = le_trans h.no_fewer k.no_fewer;
      }

  pub settled_after_events : IsEquality same → (events : List (Event Item Value Outcome)) (w : World Item Value Outcome) → AllApply same Proper means base w events
      → IsConsistentWorld same Proper means base w → StaySettled w (after_events same base w events)
  settled_after_events equality [] w apply k = record { same_entries = refl; no_fewer = omega arith }
  settled_after_events equality (event ∷ events) w apply k =
      settled_on w (after_event same base w event) (after_events same base (after_event same base w event) events)
      (settled_after_event (greatest_mark same w.marks) w event k (commits_live w event apply.0))
      (settled_after_events equality events (after_event same base w event) apply.1 (consistent_after_event same Proper means base equality w event apply.0 k))

pub every_event_keeps_settled_entries_lem : (Item Value Outcome : Type 0) (Proper : (Item → Value) → Type 0) → EveryEventKeepsSettledEntries Item Value Outcome Proper
every_event_keeps_settled_entries_lem Item Value Outcome Proper same means base mark w event k live = settled_after_event same Proper means base mark w event k live

pub every_settled_entry_stays_lem : (Item Value Outcome : Type 0) (Proper : (Item → Value) → Type 0) → EverySettledEntryStays Item Value Outcome Proper
every_settled_entry_stays_lem Item Value Outcome Proper same equality means base w reachable events apply =
    settled_after_events same Proper means base equality events w apply (consistent same Proper means base equality w reachable)
