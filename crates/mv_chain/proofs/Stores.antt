-- A store of versions keeps the facts of the order theorem, with the marks that its versions have.
use Rattle.std.proofs.Common.{◌≡◌, ℕ, suc, ◌<◌, ◌≤◌, ◌≢◌, max, Bool, true, false, nat_lt, ◌==◌, if◌then◌else◌, Option, None, Some, IsSome, List, [], ◌∷◌, refl, sym, ap, ◌∙◌, subst, arith}
use Rattle.std.specs.Map.{lookup}
use Rattle.std.specs.List.{AllByRecursion}
use Rattle.mv_chain.specs.declared.chain.Version.{Version}
use Rattle.mv_chain.specs.Versions.{IsChain, mark_in, newest_at, oldest_timestamp, versions_from, versions_read_at}
use Rattle.mv_chain.specs.Laws.{HasMarksFrom}
use Rattle.mv_chain.proofs.Marks.{every_install_keeps_marks_lem, every_prune_keeps_marks_lem, every_read_raises_one_mark_lem}
use Rattle.mv_history.specs.Facts.{IsCheckedCommit}
use Rattle.mv_history.specs.History.{Entry, IsEquality, IsRising, CallMeaning, entries_with, version_below}
use Rattle.mv_history.specs.Schedule.{AreMarked}
use Rattle.mv_history.specs.World.{Attempt, IsLowerBound, attempt_at, attempts_with_read, attempts_without}
use Rattle.mv_history.proofs.Attempts.{found_attempt, found_timestamp}
use Rattle.mv_history.proofs.CheckedCommits.{consistent_after_checked_commit}
use Rattle.mv_history.proofs.Events.{schedule_after_prune, schedule_after_read}
use Rattle.mv_history.proofs.Lists.{Compared, less, not_less, compared, Equals, equal, unequal, equals, all_map}
use Rattle.mv_history.proofs.SameWorlds.{version_below-monotone}
use Rattle.mv_history.proofs.Versions.{next_below}
use Rattle.mv_chain.specs.Agreement.{HoldsVersions}
use Rattle.mv_chain.specs.Stores.{EveryCommitLeavesAStore, EveryPruneLeavesAStore, EveryReadLeavesAStore, IsStore, KeepsMarksFrom, after_entry, after_item_read, marked_where, marks_of, written_where}
use Rattle.mv_chain.proofs.Agreements.{after_prune, after_read, after_unwritten, after_written, fresh}

-- ---- the marks of one item's versions

-- a read raises marks, and not above its timestamp where it does
pub record IsRaised (t before after : ℕ) : Type 0 where
  pub more : before ≤ after
  pub not_more : after ≤ max t before

module _ {V : Type 0} where
  raised : (t n : ℕ) (vs : List (Version V)) → IsChain vs → oldest_timestamp vs ≤ t → IsRaised t (mark_in n vs) (mark_in n (versions_read_at t vs))
  raised t n [] c h = absurd c
  raised t n (v ∷ vs) c h = subst (IsRaised t (mark_in n (v ∷ vs))) (sym (every_read_raises_one_mark_lem V t n (v ∷ vs) v c h)) (by ((newest_at t (v ∷ vs) v).timestamp == n))
    where
      by : (b : Bool) → IsRaised t (mark_in n (v ∷ vs)) (if b then max (mark_in n (v ∷ vs)) t else mark_in n (v ∷ vs))
      by true = record { more = omega arith; not_more = omega arith }
      by false = record { more = omega arith; not_more = omega arith }

  -- the version found is marked
  found_marked : (t n : ℕ) (vs : List (Version V)) → IsChain vs → oldest_timestamp vs ≤ t → ((d : Version V) → (newest_at t vs d).timestamp ≡ n) → t ≤ mark_in n (versions_read_at t vs)
  found_marked t n [] c h is = absurd c
  found_marked t n (v ∷ vs) c h is = subst (λ m. t ≤ m) (sym (every_read_raises_one_mark_lem V t n (v ∷ vs) v c h)) (by ((newest_at t (v ∷ vs) v).timestamp == n) (equals (newest_at t (v ∷ vs) v).timestamp n))
    where
      by : (b : Bool) → Equals (newest_at t (v ∷ vs) v).timestamp n b → t ≤ (if b then max (mark_in n (v ∷ vs)) t else mark_in n (v ∷ vs))
      by b (equal e) = omega arith
      by b (unequal e) = absurd (e (is v))

module _ {Item Value Outcome V : Type 0} (give : Value → V) (same : Item → Item → Bool) (base : Item → Value) (from : ℕ) (es : List (Entry Item Value Outcome)) where
  read_marked : (x : Item) (t : ℕ) (vs : List (Version V)) → HoldsVersions give same base from es x vs → from ≤ t → t ≤ mark_in (version_below same base es (suc t) x).0 (versions_read_at t vs)
  read_marked x t vs h above = found_marked t (version_below same base es (suc t) x).0 vs h.chain (omega (arith, h.old_enough)) (λ d. (h.found t d above).timestamp)

  pub read_raised : (x : Item) (t n : ℕ) (vs : List (Version V)) → HoldsVersions give same base from es x vs → from ≤ t → IsRaised t (mark_in n vs) (mark_in n (versions_read_at t vs))
  read_raised x t n vs h above = raised t n vs h.chain (omega (arith, h.old_enough))

  -- what an entry marks where it read
  pub marked_holds : (x : Item) (o : Option Value) (t : ℕ) (vs : List (Version V)) → HoldsVersions give same base from es x vs → from ≤ t → HoldsVersions give same base from es x (marked_where o t vs)
  marked_holds x None t vs h above = h
  marked_holds x (Some value) t vs h above = after_read give same base from es x vs h t above

  pub marked_raised : (x : Item) (o : Option Value) (t n : ℕ) (vs : List (Version V)) → HoldsVersions give same base from es x vs → from ≤ t → IsRaised t (mark_in n vs) (mark_in n (marked_where o t vs))
  marked_raised x None t n vs h above = record { more = omega arith; not_more = omega arith }
  marked_raised x (Some value) t n vs h above = read_raised x t n vs h above

  -- after a read of an item, the newest version not above its timestamp has at least that mark
  pub marked_found : (x : Item) (o : Option Value) (t : ℕ) (vs : List (Version V)) → IsSome o → HoldsVersions give same base from es x vs → from ≤ t → t ≤ mark_in (version_below same base es (suc t) x).0 (marked_where o t vs)
  marked_found x None t vs some h above = absurd cc
  marked_found x (Some value) t vs some h above = read_marked x t vs h above

  -- a write leaves the marks
  pub written_marks : (o : Option Value) (t n : ℕ) (vs : List (Version V)) → AllByRecursion (λ version. version.timestamp ≢ t) vs → mark_in n (written_where give o t vs) ≡ mark_in n vs
  written_marks None t n vs absent = refl
  written_marks (Some value) t n vs absent = every_install_keeps_marks_lem V t n (give value) vs absent

  -- the versions after an entry's write of the item, if any, agree with the entries and this one
  pub written_holds : (x : Item) (e : Entry Item Value Outcome) (vs : List (Version V)) → HoldsVersions give same base from es x vs → IsRising 0 es → from ≤ e.timestamp → AllByRecursion (λ version. version.timestamp ≢ e.timestamp) vs
      → (o : Option Value) → lookup (same x) e.writes ≡ o → HoldsVersions give same base from (entries_with e es) x (written_where give o e.timestamp vs)
  written_holds x e vs h rising above absent None is = after_unwritten give same base from es x vs h rising e above absent is
  written_holds x e vs h rising above absent (Some value) is = after_written give same base from es x vs h rising e above absent value is

-- each read of a list is found in it
pub reads_found : {Item Value : Type 0} (same : Item → Item → Bool) → ((x : Item) → same x x ≡ true) → (reads : List (Item × Value)) → AllByRecursion (λ read. IsSome (lookup (same read.0) reads)) reads
reads_found same itself [] = tt
reads_found {Item} {Value} same itself (r ∷ rs) = (
  by_itself (same r.0 r.0) (itself r.0),
  all_map _ _ rs (λ read found. passed (same read.0 r.0) (lookup (same read.0) rs) found) (reads_found same itself rs),
)
  where
    by_itself : (b : Bool) → b ≡ true → IsSome (if b then Some r.1 else lookup (same r.0) rs)
    by_itself true e = refl
    by_itself false e = absurd cc

    passed : (b : Bool) (o : Option Value) → IsSome o → IsSome (if b then Some r.1 else o)
    passed true o some = refl
    passed false o some = some

module _ {Item Value Outcome V : Type 0} (give : Value → V) (same : Item → Item → Bool) (Proper : (Item → Value) → Type 0) (means : CallMeaning Item Value Outcome) (base : Item → Value) (from clock low : ℕ) (es : List (Entry Item Value Outcome)) (live : List (Attempt Item Value)) (all new : Item → List (Version V)) (store : IsStore give same Proper means base from clock low es live all) where
  store_after_read : IsEquality same → (t index : ℕ) (x : Item) (a : Attempt Item Value) → attempt_at t live ≡ Some a → from ≤ t → ((y : Item) → new y ≡ after_item_read same t x all y)
      → IsStore give same Proper means base from clock low es (attempts_with_read t index (x, (version_below same base es (suc t) x).1) live) new
  store_after_read equality t index x a is_live above is =
      record {
        holds = λ y. subst (HoldsVersions give same base from es y) (sym (is y)) (holds y (same y x) refl);
        consistent = record {
          journal = store.consistent.journal;
          schedule = schedule_after_read same base (marks_of all) (marks_of new) clock low t index x es live a is_live (λ y n. (marks y n).more) (λ y n. (marks y n).not_more) marked store.consistent.schedule;
        };
      }
    where
      holds : (y : Item) (b : Bool) → same y x ≡ b → HoldsVersions give same base from es y (if b then versions_read_at t (all x) else all y)
      holds y true e = subst (λ z. HoldsVersions give same base from es y (versions_read_at t (all z))) (equality.exact y x e) (after_read give same base from es y (all y) (store.holds y) t above)
      holds y false e = store.holds y

      raised_at : (y : Item) (n : ℕ) (b : Bool) → same y x ≡ b → IsRaised t (mark_in n (all y)) (mark_in n (if b then versions_read_at t (all x) else all y))
      raised_at y n true e = subst (λ z. IsRaised t (mark_in n (all y)) (mark_in n (versions_read_at t (all z)))) (equality.exact y x e) (read_raised give same base from es y t n (all y) (store.holds y) above)
      raised_at y n false e = record { more = omega arith; not_more = omega arith }

      marks : (y : Item) (n : ℕ) → IsRaised t (marks_of all y n) (marks_of new y n)
      marks y n = subst (λ vs. IsRaised t (mark_in n (all y)) (mark_in n vs)) (sym (is y)) (raised_at y n (same y x) refl)

      marked : t ≤ marks_of new x (version_below same base es (suc t) x).0
      marked =
          subst (λ vs. t ≤ mark_in (version_below same base es (suc t) x).0 vs) (sym (is x ∙ ap (λ b. if b then versions_read_at t (all x) else all x) (equality.itself x)))
          (read_marked give same base from es x t (all x) (store.holds x) above)

  store_after_commit : IsEquality same → (a : Attempt Item Value) (e : Entry Item Value Outcome) → attempt_at e.timestamp live ≡ Some a → IsCheckedCommit same Proper means base (marks_of all) es a e → from ≤ e.timestamp
      → ((y : Item) → new y ≡ after_entry give same e all y) → IsStore give same Proper means base from clock low (entries_with e es) (attempts_without e.timestamp live) new
  store_after_commit equality a e is_live checked above is =
      record {
        holds = λ y. subst (HoldsVersions give same base from (entries_with e es) y) (sym (is y))
            (written_holds give same base from es y e (read y) (read_holds y) store.consistent.journal.rising above (absent y) (lookup (same y) e.writes) refl);
        consistent = consistent_after_checked_commit same Proper means base equality.exact (marks_of all) (marks_of new) clock low es live a e is_live checked.number checked.finished checked.agrees checked.in_time
            (λ y n. (marks y n).more) (λ y n. (marks y n).not_more) marked store.consistent;
      }
    where
      -- an item's versions, marked where the entry read it
      read : Item → List (Version V)
      read y = marked_where (lookup (same y) e.reads) e.timestamp (all y)

      read_holds : (y : Item) → HoldsVersions give same base from es y (read y)
      read_holds y = marked_holds give same base from es y (lookup (same y) e.reads) e.timestamp (all y) (store.holds y) above

      positive : 0 < e.timestamp
      positive = subst (λ t. 0 < t) (found_timestamp e.timestamp a live is_live) (found_attempt (λ (b : Attempt Item Value). (0 < b.timestamp) × (b.timestamp ≤ clock)) e.timestamp a live is_live store.consistent.schedule.live_past).0

      unused : AllByRecursion (λ (f : Entry Item Value Outcome). f.timestamp ≢ e.timestamp) es
      unused =
          subst (λ t. AllByRecursion (λ (f : Entry Item Value Outcome). f.timestamp ≢ t) es) (found_timestamp e.timestamp a live is_live)
          (found_attempt (λ (b : Attempt Item Value). AllByRecursion (λ (f : Entry Item Value Outcome). f.timestamp ≢ b.timestamp) es) e.timestamp a live is_live store.consistent.schedule.live_fresh)

      absent : (y : Item) → AllByRecursion (λ version. version.timestamp ≢ e.timestamp) (read y)
      absent y = fresh give same base from es y (read y) (read_holds y) store.consistent.journal.rising e.timestamp positive unused

      new_mark : (y : Item) (n : ℕ) → marks_of new y n ≡ mark_in n (read y)
      new_mark y n = ap (mark_in n) (is y) ∙ written_marks give same base from es (lookup (same y) e.writes) e.timestamp n (read y) (absent y)

      marks : (y : Item) (n : ℕ) → IsRaised e.timestamp (marks_of all y n) (marks_of new y n)
      marks y n = subst (IsRaised e.timestamp (mark_in n (all y))) (sym (new_mark y n)) (marked_raised give same base from es y (lookup (same y) e.reads) e.timestamp n (all y) (store.holds y) above)

      marked : AreMarked same base (marks_of new) es e.timestamp e.reads
      marked =
          all_map (λ (r : Item × Value). IsSome (lookup (same r.0) e.reads)) _ e.reads
          (λ r found.
          let found_at : version_below same base es (suc e.timestamp) r.0 ≡ version_below same base es e.timestamp r.0 = next_below same e.timestamp es r.0 (0, base r.0) unused in
          subst (λ v. e.timestamp ≤ marks_of new r.0 v.0) found_at
          (subst (λ n. e.timestamp ≤ n) (sym (new_mark r.0 (version_below same base es (suc e.timestamp) r.0).0))
          (marked_found give same base from es r.0 (lookup (same r.0) e.reads) e.timestamp (all r.0) found (store.holds r.0) above)))
          (reads_found same equality.itself e.reads)

  store_after_prune : (higher : ℕ) → from ≤ higher → low ≤ higher → higher ≤ clock → IsLowerBound higher live → ((y : Item) → new y ≡ versions_from higher (all y))
      → IsStore give same Proper means base higher clock higher es live new × KeepsMarksFrom same base higher es all new
  store_after_prune higher from_below low_below past bound is = (
    record {
      holds = λ y. subst (HoldsVersions give same base higher es y) (sym (is y)) (after_prune give same base from es y (all y) (store.holds y) higher from_below);
      consistent = record {
        journal = store.consistent.journal;
        schedule = schedule_after_prune same base (marks_of all) (marks_of new) clock low higher es live low_below past bound fewer
            (λ x t above. kept x (version_below same base es (suc t) x).0 (version_below-monotone same base (suc higher) (suc t) es x (omega arith) store.consistent.journal.rising)) store.consistent.schedule;
      };
    },
    kept,
  )
    where
      from_list : (x : Item) (vs : List (Version V)) → HoldsVersions give same base from es x vs → (d : Version V) → HasMarksFrom higher vs d
      from_list x vs h d = every_prune_keeps_marks_lem V higher vs d h.chain (omega (arith, h.old_enough))

      kept_in : (x : Item) (n : ℕ) (vs : List (Version V)) → HoldsVersions give same base from es x vs → (version_below same base es (suc higher) x).0 ≤ n → mark_in n (versions_from higher vs) ≡ mark_in n vs
      kept_in x n [] h above = absurd h.chain
      kept_in x n (v ∷ vs) h above = (from_list x (v ∷ vs) h v).kept n (subst (λ m. m ≤ n) (sym (h.found higher v from_below).timestamp) above)

      fewer_in : (x : Item) (n : ℕ) (vs : List (Version V)) → HoldsVersions give same base from es x vs → mark_in n (versions_from higher vs) ≤ mark_in n vs
      fewer_in x n [] h = absurd h.chain
      fewer_in x n (v ∷ vs) h = by (nat_lt n (newest_at higher (v ∷ vs) v).timestamp) (compared n (newest_at higher (v ∷ vs) v).timestamp)
        where
          by : (b : Bool) → Compared n (newest_at higher (v ∷ vs) v).timestamp b → mark_in n (versions_from higher (v ∷ vs)) ≤ mark_in n (v ∷ vs)
          by b (less k) = omega (arith, (from_list x (v ∷ vs) h v).dropped n k)
          by b (not_less k) = omega (arith, (from_list x (v ∷ vs) h v).kept n k)

      kept : KeepsMarksFrom same base higher es all new
      kept x n above = ap (mark_in n) (is x) ∙ kept_in x n (all x) (store.holds x) above

      fewer : (x : Item) (n : ℕ) → marks_of new x n ≤ marks_of all x n
      fewer x n = subst (λ vs. mark_in n vs ≤ mark_in n (all x)) (sym (is x)) (fewer_in x n (all x) (store.holds x))

pub every_read_leaves_a_store_lem : (Item Value Outcome V : Type 0) (Proper : (Item → Value) → Type 0) → EveryReadLeavesAStore Item Value Outcome V Proper
every_read_leaves_a_store_lem Item Value Outcome V Proper give same equality means base from clock low es live all new store t index x a is_live above is =
    store_after_read give same Proper means base from clock low es live all new store equality t index x a is_live above is

pub every_commit_leaves_a_store_lem : (Item Value Outcome V : Type 0) (Proper : (Item → Value) → Type 0) → EveryCommitLeavesAStore Item Value Outcome V Proper
every_commit_leaves_a_store_lem Item Value Outcome V Proper give same equality means base from clock low es live all new store a e is_live checked above is =
    store_after_commit give same Proper means base from clock low es live all new store equality a e is_live checked above is

pub every_prune_leaves_a_store_lem : (Item Value Outcome V : Type 0) (Proper : (Item → Value) → Type 0) → EveryPruneLeavesAStore Item Value Outcome V Proper
every_prune_leaves_a_store_lem Item Value Outcome V Proper give same means base from clock low es live all new store higher from_below low_below past bound is =
    store_after_prune give same Proper means base from clock low es live all new store higher from_below low_below past bound is
