-- What holds in every world, of marks and live attempts beside the journal of the entries.
use Rattle.std.specs.Prelude.{ℕ, ◌+◌, ◌<◌, ◌≤◌, ◌≢◌, Bool, List}
use Rattle.std.specs.List.{AllByRecursion}
use Rattle.mv_history.specs.History.{Entry, CallMeaning, Agrees, version_below, state_below, commit_count}
use Rattle.mv_history.specs.World.{Attempt, World, greatest_mark, live_count, IsLowerBound}
use Rattle.mv_history.specs.Journal.{IsJournal}

-- the versions that were read at a timestamp are marked
abbrev pub AreMarked : {Item Value Outcome : Type 0} → (Item → Item → Bool) → (Item → Value) → (Item → ℕ → ℕ) → List (Entry Item Value Outcome) → ℕ → List (Item × Value) → Type 0
AreMarked same base mark es t reads = AllByRecursion (λ read. t ≤ mark read.0 (version_below same base es t read.0).0) reads

-- The facts of marks and live attempts. `mark` gives the greatest mark of each version of an item, however marks
-- are kept.
pub record IsSchedule {Item Value Outcome : Type 0} (same : Item → Item → Bool) (base : Item → Value) (mark : Item → ℕ → ℕ) (clock low : ℕ) (es : List (Entry Item Value Outcome)) (live : List (Attempt Item Value)) : Type 0 where
  -- timestamps were given by the clock, and no live one is an entry's
  pub entries_past : AllByRecursion (λ e. e.timestamp ≤ clock) es
  pub live_past : AllByRecursion (λ a. (0 < a.timestamp) × (a.timestamp ≤ clock)) live
  pub live_fresh : AllByRecursion (λ a. AllByRecursion (λ e. e.timestamp ≢ a.timestamp) es) live
  pub marks_past : (x : Item) (version : ℕ) → mark x version ≤ clock
  pub low_past : low ≤ clock
  pub low_live : IsLowerBound low live
  -- a live attempt has read what the entries below it leave
  pub live_agree : AllByRecursion (λ a. Agrees a.reads (state_below same base es a.timestamp)) live
  pub live_marked : AllByRecursion (λ a. AreMarked same base mark es a.timestamp a.reads) live
  -- the marks of an entry's reads, unless the low mark lets no commit come below the entry any more
  pub entries_marked : AllByRecursion (λ e. low < e.timestamp → AreMarked same base mark es e.timestamp e.reads) es
  -- no call is committed twice, live twice, or both
  pub once : (number : ℕ) → commit_count number es + live_count number live ≤ 1

pub record IsConsistent {Item Value Outcome : Type 0} (same : Item → Item → Bool) (Proper : (Item → Value) → Type 0) (means : CallMeaning Item Value Outcome) (base : Item → Value) (mark : Item → ℕ → ℕ) (clock low : ℕ) (es : List (Entry Item Value Outcome)) (live : List (Attempt Item Value)) : Type 0 where
  pub journal : IsJournal same Proper means base es
  pub schedule : IsSchedule same base mark clock low es live

-- of a world, whose marks are a list
abbrev pub IsConsistentWorld : {Item Value Outcome : Type 0} → (Item → Item → Bool) → ((Item → Value) → Type 0) → CallMeaning Item Value Outcome → (Item → Value) → World Item Value Outcome → Type 0
IsConsistentWorld same Proper means base w = IsConsistent same Proper means base (greatest_mark same w.marks) w.clock w.low w.entries w.live
