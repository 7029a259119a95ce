-- Laws that show what the model means: when a commit is late, and what the events come to in special cases.
use Rattle.std.specs.Prelude.{◌≡◌, ℕ, suc, ◌+◌, ◌<◌, ◌≤◌, ◌⊎◌, Bool, Some, None, IsSome, List, [], ◌∷◌, ◌++◌, length, map, Contains}
use Rattle.std.specs.Map.{lookup}
use Rattle.std.specs.List.{AllByRecursion}
use Rattle.mv_history.specs.History.{Entry, CallMeaning, IsEquality, IsRising, version_below, entries_with}
use Rattle.mv_history.specs.World.{World, Mark, greatest_mark, KeepsNeededMarks, IsInTime, Event, Begin, Read, Commit, Abandon, Prune, first_world, AllApply, after_events, IsReachable, Applies, after_event}
use Rattle.mv_history.specs.Serial.{IsSerial}

-- an entry below a timestamp wrote this version of the item
pub record IsVersionOf {Item Value Outcome : Type 0} (same : Item → Item → Bool) (t : ℕ) (es : List (Entry Item Value Outcome)) (x : Item) (v : ℕ × Value) (e : Entry Item Value Outcome) : Type 0 where
  pub held : Contains es e
  pub below : e.timestamp < t
  pub timestamp : v.0 ≡ e.timestamp
  pub value : lookup (same x) e.writes ≡ Some v.1

-- the newest version of an item below a timestamp: the base's, or that of the last entry below it that writes the item
pub record IsNewestBelow {Item Value Outcome : Type 0} (same : Item → Item → Bool) (base : Item → Value) (es : List (Entry Item Value Outcome)) (t : ℕ) (x : Item) (v : ℕ × Value) : Type 0 where
  pub written : (v ≡ (0, base x)) ⊎ ((e : Entry Item Value Outcome) × IsVersionOf same t es x v e)
  pub greatest : AllByRecursion (λ e. e.timestamp < t → IsSome (lookup (same x) e.writes) → e.timestamp ≤ v.0) es

abbrev pub EveryVersionBelowIsNewest : (Item Value Outcome : Type 0) → Type 0
EveryVersionBelowIsNewest Item Value Outcome =
    (same : Item → Item → Bool) (base : Item → Value) (es : List (Entry Item Value Outcome)) → IsRising 0 es
    → (t : ℕ) (x : Item) → IsNewestBelow same base es t x (version_below same base es t x)

-- the version below a timestamp, after one more entry: the entry's own where it writes the item between the version
-- found before and the timestamp
pub record IsVersionAfterCommit {Item Value Outcome : Type 0} (same : Item → Item → Bool) (base : Item → Value) (es : List (Entry Item Value Outcome)) (e : Entry Item Value Outcome) (t : ℕ) (x : Item) : Type 0 where
  pub found : (value : Value) → lookup (same x) e.writes ≡ Some value → e.timestamp < t → (version_below same base es t x).0 < e.timestamp → version_below same base (entries_with e es) t x ≡ (e.timestamp, value)
  pub unwritten : lookup (same x) e.writes ≡ None → version_below same base (entries_with e es) t x ≡ version_below same base es t x
  pub older : e.timestamp < (version_below same base es t x).0 → version_below same base (entries_with e es) t x ≡ version_below same base es t x
  pub above : t ≤ e.timestamp → version_below same base (entries_with e es) t x ≡ version_below same base es t x

abbrev pub EveryCommitIsFound : (Item Value Outcome : Type 0) → Type 0
EveryCommitIsFound Item Value Outcome =
    (same : Item → Item → Bool) (base : Item → Value) (es : List (Entry Item Value Outcome)) → IsRising 0 es
    → (e : Entry Item Value Outcome) (t : ℕ) (x : Item) → IsVersionAfterCommit same base es e t x

-- A commit is late at an item: it writes the item, whose version not above it was read above it, the last time by
-- this reader.
pub record IsLate {Item Value Outcome : Type 0} (same : Item → Item → Bool) (base : Item → Value) (marks : List (Mark Item)) (es : List (Entry Item Value Outcome)) (e : Entry Item Value Outcome) (x : Item) (version reader : ℕ) : Type 0 where
  pub written : IsSome (lookup (same x) e.writes)
  pub follows : version ≡ (version_below same base es (suc e.timestamp) x).0
  pub marked : Contains marks (record { item = x; version = version; reader = reader })
  pub greatest : reader ≡ greatest_mark same marks x version
  pub above : e.timestamp < reader

abbrev pub EveryCommitIsInTimeOrLate : (Item Value Outcome : Type 0) → Type 0
EveryCommitIsInTimeOrLate Item Value Outcome =
    (same : Item → Item → Bool) → IsEquality same → (base : Item → Value) (w : World Item Value Outcome) (e : Entry Item Value Outcome)
    → IsInTime same base (greatest_mark same w.marks) w.entries e
    ⊎ ((x : Item) × (version : ℕ) × (reader : ℕ) × IsLate same base w.marks w.entries e x version reader)

abbrev pub NoCommitInTimeIsLate : (Item Value Outcome : Type 0) → Type 0
NoCommitInTimeIsLate Item Value Outcome =
    (same : Item → Item → Bool) → IsEquality same → (base : Item → Value) (w : World Item Value Outcome) (e : Entry Item Value Outcome)
    → IsInTime same base (greatest_mark same w.marks) w.entries e
    → (x : Item) (version reader : ℕ) → ¬ IsLate same base w.marks w.entries e x version reader

abbrev pub NoMarkIsAboveTheGreatest : (Item : Type 0) → Type 0
NoMarkIsAboveTheGreatest Item =
    (same : Item → Item → Bool) → IsEquality same → (marks : List (Mark Item)) (m : Mark Item) → Contains marks m → m.reader ≤ greatest_mark same marks m.item m.version

abbrev pub EveryCommitWithoutWritesIsInTime : (Item Value Outcome : Type 0) → Type 0
EveryCommitWithoutWritesIsInTime Item Value Outcome =
    (same : Item → Item → Bool) (base : Item → Value) (w : World Item Value Outcome) (e : Entry Item Value Outcome)
    → e.writes ≡ [] → IsInTime same base (greatest_mark same w.marks) w.entries e

-- each event that applies leads on to a world that events lead to
abbrev pub EveryEventLeadsOn : (Item Value Outcome : Type 0) → ((Item → Value) → Type 0) → Type 0
EveryEventLeadsOn Item Value Outcome Proper =
    (same : Item → Item → Bool) (means : CallMeaning Item Value Outcome) (base : Item → Value)
    → IsReachable same Proper means base first_world
    × ((w : World Item Value Outcome) (event : Event Item Value Outcome) → IsReachable same Proper means base w → Applies same Proper means base w event
    → IsReachable same Proper means base (after_event same base w event))

-- pruning at any timestamp applies, with all marks left
abbrev pub EveryPruneApplies : (Item Value Outcome : Type 0) → ((Item → Value) → Type 0) → Type 0
EveryPruneApplies Item Value Outcome Proper =
    (same : Item → Item → Bool) (means : CallMeaning Item Value Outcome) (base : Item → Value) (w : World Item Value Outcome) (t : ℕ)
    → Applies same Proper means base w (Prune t w.marks)

-- how marks are listed is free, and those that no one from the low mark on asks for may be missing
abbrev pub EveryListingOfMarksServes : (Item Value Outcome : Type 0) → ((Item → Value) → Type 0) → Type 0
EveryListingOfMarksServes Item Value Outcome Proper =
    (same : Item → Item → Bool) (means : CallMeaning Item Value Outcome) (base : Item → Value) (w : World Item Value Outcome) → IsReachable same Proper means base w
    → (marks : List (Mark Item)) → KeepsNeededMarks same base w.low w.entries w.marks marks
    → IsReachable same Proper means base (record w { marks = marks })

-- the clock is the last timestamp given
abbrev pub EveryCommitAtTheClockIsInTime : (Item Value Outcome : Type 0) → ((Item → Value) → Type 0) → Type 0
EveryCommitAtTheClockIsInTime Item Value Outcome Proper =
    (same : Item → Item → Bool) → IsEquality same → (means : CallMeaning Item Value Outcome) (base : Item → Value)
    → (w : World Item Value Outcome) → IsReachable same Proper means base w → (e : Entry Item Value Outcome)
    → e.timestamp ≡ w.clock → IsInTime same base (greatest_mark same w.marks) w.entries e

-- an event of the plain scheduler, which neither abandons nor prunes
abbrev pub IsPlain : {Item Value Outcome : Type 0} → Event Item Value Outcome → Type 0
IsPlain (Abandon t) = ⊥
IsPlain (Prune t marks) = ⊥
IsPlain event = Unit {0}

-- The plain scheduler is a special case: each timestamp given is an entry's or a live attempt's, and nothing is
-- pruned.
abbrev pub EveryPlainInterleavingKeepsAll : (Item Value Outcome : Type 0) → ((Item → Value) → Type 0) → Type 0
EveryPlainInterleavingKeepsAll Item Value Outcome Proper =
    (same : Item → Item → Bool) → IsEquality same → (means : CallMeaning Item Value Outcome) (base : Item → Value) → Proper base
    → (events : List (Event Item Value Outcome)) → AllApply same Proper means base first_world events → AllByRecursion IsPlain events
    → IsSerial same Proper means base (after_events same base first_world events)
    × ((after_events same base first_world events).low ≡ 0)
    × (length (after_events same base first_world events).entries + length (after_events same base first_world events).live ≡ (after_events same base first_world events).clock)

-- a worker, alone
pub data Worker : Type 0 where
  Idle : Worker
  Busy : Worker

-- one worker runs each call that it begins to its commit
abbrev pub RunsEachCall : {Item Value Outcome : Type 0} → Worker → List (Event Item Value Outcome) → Type 0
RunsEachCall worker [] = Unit {0}
RunsEachCall Idle (Begin number ∷ events) = RunsEachCall Busy events
RunsEachCall Busy (Read t index x ∷ events) = RunsEachCall Busy events
RunsEachCall Busy (Commit e ∷ events) = RunsEachCall Idle events
RunsEachCall worker (Prune t marks ∷ events) = RunsEachCall worker events
RunsEachCall worker (event ∷ events) = ⊥

-- the numbers of the calls, in the order begun
abbrev pub numbers_begun : {Item Value Outcome : Type 0} → List (Event Item Value Outcome) → List ℕ
numbers_begun [] = []
numbers_begun (Begin number ∷ events) = number ∷ numbers_begun events
numbers_begun (event ∷ events) = numbers_begun events

-- the numbers of the committed calls by rising timestamp, then those of the live ones
abbrev pub call_numbers : {Item Value Outcome : Type 0} → World Item Value Outcome → List ℕ
call_numbers w = map (λ e. e.number) w.entries ++ map (λ a. a.number) w.live

abbrev pub OneWorkerCommitsInOrder : (Item Value Outcome : Type 0) → ((Item → Value) → Type 0) → Type 0
OneWorkerCommitsInOrder Item Value Outcome Proper =
    (same : Item → Item → Bool) (means : CallMeaning Item Value Outcome) (base : Item → Value)
    → (events : List (Event Item Value Outcome)) → AllApply same Proper means base first_world events → RunsEachCall Idle events
    → call_numbers (after_events same base first_world events) ≡ numbers_begun events
