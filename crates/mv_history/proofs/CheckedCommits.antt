-- A commit whose reads are checked anew against the entries: no reads of live attempts are kept beside it.
use Rattle.std.proofs.Common.{◌≡◌, ℕ, suc, ◌+◌, ◌<◌, ◌≤◌, max, Bool, true, false, if◌then◌else◌, cond, not, ◌==◌, Some, List, [], ◌∷◌, refl, sym, ap, ◌∙◌, subst, arith}
use Rattle.std.specs.List.{AllByRecursion}
use Rattle.std.proofs.lemmas.Option.{same_Some}
use Rattle.mv_history.specs.History.{Entry, CallMeaning, Agrees, IsFinished, entries_with, version_below, state_below}
use Rattle.mv_history.specs.World.{Attempt, attempt_at, attempts_without, live_count, IsInTime}
use Rattle.mv_history.specs.Schedule.{AreMarked, IsSchedule, IsConsistent}
use Rattle.mv_history.specs.Facts.{EveryCheckedCommitKeepsFacts}
use Rattle.mv_history.proofs.Lists.{Equals, equal, unequal, equals, all_map}
use Rattle.mv_history.proofs.Attempts.{found_attempt, found_timestamp}
use Rattle.mv_history.proofs.Events.{marked_more, consistent_after_commit}

module _ {Item Value : Type 0} (t : ℕ) (reads : List (Item × Value)) where
  -- the live attempts, the one at t with these reads
  pub with_reads : List (Attempt Item Value) → List (Attempt Item Value)
  with_reads [] = []
  with_reads (a ∷ as') = if a.timestamp == t then record a { reads = reads } ∷ as' else a ∷ with_reads as'

  all_with_reads : (P : Attempt Item Value → Type 0) → ((a : Attempt Item Value) → a.timestamp ≡ t → P a → P (record a { reads = reads })) → (live : List (Attempt Item Value)) → AllByRecursion P live → AllByRecursion P (with_reads live)
  unfolding with_reads
  all_with_reads P f [] h = tt
  all_with_reads P f (a ∷ as') h = at_test (a.timestamp == t) (equals a.timestamp t) (all_with_reads P f as' h.1)
    where
      at_test : (c : Bool) → Equals a.timestamp t c → AllByRecursion P (with_reads as') → AllByRecursion P (if c then record a { reads = reads } ∷ as' else a ∷ with_reads as')
      at_test c (equal k) rest = (f a k h.0, h.1)
      at_test c (unequal k) rest = (h.0, rest)

  found_with_reads : (a : Attempt Item Value) (live : List (Attempt Item Value)) → attempt_at t live ≡ Some a → attempt_at t (with_reads live) ≡ Some (record a { reads = reads })
  unfolding with_reads
  found_with_reads a [] e = absurd cc
  found_with_reads a (b ∷ bs) e = at_test (b.timestamp == t) refl e (found_with_reads a bs)
    where
      at_test : (c : Bool) → (b.timestamp == t) ≡ c → (if c then Some b else attempt_at t bs) ≡ Some a → (attempt_at t bs ≡ Some a → attempt_at t (with_reads bs) ≡ Some (record a { reads = reads }))
          → attempt_at t (if c then record b { reads = reads } ∷ bs else b ∷ with_reads bs) ≡ Some (record a { reads = reads })
      at_test true same is rest = ap (λ c. if c then Some (record b { reads = reads }) else attempt_at t bs) same ∙ ap (λ (x : Attempt Item Value). Some (record x { reads = reads })) (same_Some _ _ is)
      at_test false other is rest = ap (λ c. if c then Some b else attempt_at t (with_reads bs)) other ∙ rest is

  -- what is left when an attempt ends does not depend on its reads
  pub without_with_reads : (live : List (Attempt Item Value)) → attempts_without t (with_reads live) ≡ attempts_without t live
  unfolding with_reads
  without_with_reads [] = refl
  without_with_reads (b ∷ bs) = at_test (b.timestamp == t) refl (without_with_reads bs)
    where
      at_test : (c : Bool) → (b.timestamp == t) ≡ c → attempts_without t (with_reads bs) ≡ attempts_without t bs
          → attempts_without t (if c then record b { reads = reads } ∷ bs else b ∷ with_reads bs) ≡ cond (not c) (b ∷ attempts_without t bs) (attempts_without t bs)
      at_test true same rest = ap (λ c. cond (not c) (record b { reads = reads } ∷ attempts_without t bs) (attempts_without t bs)) same
      at_test false other rest = ap (λ c. cond (not c) (b ∷ attempts_without t (with_reads bs)) (attempts_without t (with_reads bs))) other ∙ ap (λ l. b ∷ l) rest

  count_with_reads : (n : ℕ) (live : List (Attempt Item Value)) → live_count n (with_reads live) ≡ live_count n live
  unfolding with_reads
  count_with_reads n [] = refl
  count_with_reads n (b ∷ bs) = at_test (b.timestamp == t) (count_with_reads n bs)
    where
      at_test : (c : Bool) → live_count n (with_reads bs) ≡ live_count n bs → live_count n (if c then record b { reads = reads } ∷ bs else b ∷ with_reads bs) ≡ (if b.number == n then 1 else 0) + live_count n bs
      at_test true rest = refl
      at_test false rest = ap (λ m. (if b.number == n then 1 else 0) + m) rest

module _ {Item Value Outcome : Type 0} (same : Item → Item → Bool) (Proper : (Item → Value) → Type 0) (means : CallMeaning Item Value Outcome) (base : Item → Value) where
  -- a commit in time, whose reads are checked anew and then marked, keeps the facts
  pub consistent_after_checked_commit : ((x y : Item) → same x y ≡ true → x ≡ y) → (mark mark' : Item → ℕ → ℕ) (clock low : ℕ) (es : List (Entry Item Value Outcome)) (live : List (Attempt Item Value)) (a : Attempt Item Value) (e : Entry Item Value Outcome)
      → attempt_at e.timestamp live ≡ Some a → e.number ≡ a.number → IsFinished same Proper means e
      → Agrees e.reads (state_below same base es e.timestamp) → IsInTime same base mark es e
      → ((y : Item) (v : ℕ) → mark y v ≤ mark' y v) → ((y : Item) (v : ℕ) → mark' y v ≤ max e.timestamp (mark y v))
      → AllByRecursion (λ read. e.timestamp ≤ mark' read.0 (version_below same base es e.timestamp read.0).0) e.reads
      → IsConsistent same Proper means base mark clock low es live
      → IsConsistent same Proper means base mark' clock low (entries_with e es) (attempts_without e.timestamp live)
  consistent_after_checked_commit exact mark mark' clock low es live a e is_live number finished agrees in_time more not_more marked k =
      subst (λ l. IsConsistent same Proper means base mark' clock low (entries_with e es) l) (without_with_reads e.timestamp e.reads live)
      (consistent_after_commit same Proper means base exact mark' clock low es (with_reads e.timestamp e.reads live) (record a { reads = e.reads }) e
      (found_with_reads e.timestamp e.reads a live is_live)
      (record { timestamp = sym (found_timestamp e.timestamp a live is_live); number = number; reads = refl; finished = finished })
      (all_map (λ write. mark write.0 (version_below same base es (suc e.timestamp) write.0).0 ≤ e.timestamp) _ e.writes (λ write h. let u : mark' write.0 (version_below same base es (suc e.timestamp) write.0).0 ≤ max e.timestamp (mark write.0 (version_below same base es (suc e.timestamp) write.0).0) = not_more write.0 (version_below same base es (suc e.timestamp) write.0).0 in omega arith) in_time)
      (record { journal = k.journal; schedule = schedule }))
    where
      past : e.timestamp ≤ clock
      past = subst (λ t. t ≤ clock) (found_timestamp e.timestamp a live is_live) (found_attempt (λ b. (0 < b.timestamp) × (b.timestamp ≤ clock)) e.timestamp a live is_live k.schedule.live_past).1

      schedule : IsSchedule same base mark' clock low es (with_reads e.timestamp e.reads live)
      schedule = record {
        entries_past = k.schedule.entries_past;
        live_past = all_with_reads e.timestamp e.reads _ (λ b h p. p) live k.schedule.live_past;
        live_fresh = all_with_reads e.timestamp e.reads _ (λ b h p. p) live k.schedule.live_fresh;
        marks_past = λ y v. let h : mark y v ≤ clock = k.schedule.marks_past y v in let u : mark' y v ≤ max e.timestamp (mark y v) = not_more y v in let p = past in omega arith;
        low_past = k.schedule.low_past;
        low_live = all_with_reads e.timestamp e.reads _ (λ b h p. p) live k.schedule.low_live;
        live_agree = all_with_reads e.timestamp e.reads (λ b. Agrees b.reads (state_below same base es b.timestamp)) (λ b h p. subst (λ t. Agrees e.reads (state_below same base es t)) (sym h) agrees) live k.schedule.live_agree;
        live_marked = all_with_reads e.timestamp e.reads (λ b. AreMarked same base mark' es b.timestamp b.reads)
            (λ b h p. subst (λ t. AllByRecursion (λ read. t ≤ mark' read.0 (version_below same base es t read.0).0) e.reads) (sym h) marked) live
            (all_map (λ b. AreMarked same base mark es b.timestamp b.reads) _ live (λ b m. marked_more same base mark mark' es b.timestamp b.reads more m) k.schedule.live_marked);
        entries_marked = all_map (λ f. low < f.timestamp → AreMarked same base mark es f.timestamp f.reads) _ es (λ f m above. marked_more same base mark mark' es f.timestamp f.reads more (m above)) k.schedule.entries_marked;
        once = λ n. omega (arith, k.schedule.once n, count_with_reads e.timestamp e.reads n live);
      }

pub every_checked_commit_keeps_facts_lem : (Item Value Outcome : Type 0) (Proper : (Item → Value) → Type 0) → EveryCheckedCommitKeepsFacts Item Value Outcome Proper
every_checked_commit_keeps_facts_lem Item Value Outcome Proper same equality means base mark mark' clock low es live a e is_live checked marks k =
    consistent_after_checked_commit same Proper means base equality.exact mark mark' clock low es live a e is_live checked.number checked.finished checked.agrees checked.in_time marks.more marks.not_more marks.marked k
