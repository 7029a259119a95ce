-- Worlds that differ in how marks are listed, and in marks that no one from the low mark on asks for.
use Rattle.std.specs.Prelude.{◌≡◌, ℕ, suc, ◌≤◌, ◌↔◌, Bool, List}
use Rattle.mv_history.specs.History.{Entry, IsRising, version_below}
use Rattle.mv_history.specs.World.{World, Mark, greatest_mark, IsInTime, Event, Prune, after_event, low_after_prune}

-- Two lists of marks give the same greatest mark to each version from the newest at the low mark on. Older ones are
-- found by no one any more.
abbrev pub HaveSameMarks : {Item Value Outcome : Type 0} → (Item → Item → Bool) → (Item → Value) → ℕ → List (Entry Item Value Outcome) → List (Mark Item) → List (Mark Item) → Type 0
HaveSameMarks {Item} same base low es marks marks' = (x : Item) (version : ℕ) → (version_below same base es (suc low) x).0 ≤ version → greatest_mark same marks x version ≡ greatest_mark same marks' x version

-- one world but for the marks that don't count
pub record IsSameWorld {Item Value Outcome : Type 0} (same : Item → Item → Bool) (base : Item → Value) (w v : World Item Value Outcome) : Type 0 where
  pub clock : w.clock ≡ v.clock
  pub low : w.low ≡ v.low
  pub entries : w.entries ≡ v.entries
  pub live : w.live ≡ v.live
  pub marks : HaveSameMarks same base w.low w.entries w.marks v.marks

-- the same event in both; a prune may leave other marks, as long as those that count are the same
abbrev pub IsSameEvent : {Item Value Outcome : Type 0} → (Item → Item → Bool) → (Item → Value) → World Item Value Outcome → Event Item Value Outcome → Event Item Value Outcome → Type 0
IsSameEvent same base w (Prune t marks) (Prune u marks') = (t ≡ u) × HaveSameMarks same base (low_after_prune w t) w.entries marks marks'
IsSameEvent same base w event event' = event ≡ event'

-- the same events lead to the same worlds
abbrev pub SameEventsLeadToSameWorlds : (Item Value Outcome : Type 0) → Type 0
SameEventsLeadToSameWorlds Item Value Outcome =
    (same : Item → Item → Bool) (base : Item → Value) (w v : World Item Value Outcome) → IsRising 0 w.entries → IsSameWorld same base w v
    → (event event' : Event Item Value Outcome) → IsSameEvent same base w event event'
    → IsSameWorld same base (after_event same base w event) (after_event same base v event')

-- the same commits are in time, from the low mark on
abbrev pub SameCommitsAreInTime : (Item Value Outcome : Type 0) → Type 0
SameCommitsAreInTime Item Value Outcome =
    (same : Item → Item → Bool) (base : Item → Value) (w v : World Item Value Outcome) → IsRising 0 w.entries → IsSameWorld same base w v
    → (e : Entry Item Value Outcome) → w.low ≤ e.timestamp
    → IsInTime same base (greatest_mark same w.marks) w.entries e ↔ IsInTime same base (greatest_mark same v.marks) v.entries e
