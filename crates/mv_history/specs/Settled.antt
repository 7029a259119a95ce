-- Which entries stay as they are, whatever comes after.
use Rattle.std.specs.Prelude.{◌≡◌, ℕ, suc, ◌≤◌, Bool, nat_le, if◌then◌else◌, IsSome, List, [], ◌∷◌, take}
use Rattle.mv_history.specs.History.{Entry, CallMeaning, IsEquality}
use Rattle.mv_history.specs.World.{World, Event, Begin, Read, Commit, Abandon, Prune, AllApply, IsReachable, after_event, after_events, attempt_at, low_after_prune}
use Rattle.mv_history.specs.Schedule.{IsConsistent}

-- how many entries, from the first, are not above a timestamp
abbrev pub entries_not_above : {Item Value Outcome : Type 0} → ℕ → List (Entry Item Value Outcome) → ℕ
entries_not_above t [] = 0
entries_not_above t (e ∷ es) = if nat_le e.timestamp t then suc (entries_not_above t es) else 0

-- how many are settled: those not above the low mark that a prune would make now
abbrev pub settled_count : {Item Value Outcome : Type 0} → World Item Value Outcome → ℕ
settled_count w = entries_not_above (low_after_prune w w.clock) w.entries

-- What was settled is first, in the same order, and is settled still.
pub record StaySettled {Item Value Outcome : Type 0} (old new : World Item Value Outcome) : Type 0 where
  pub same_entries : take (settled_count old) new.entries ≡ take (settled_count old) old.entries
  pub no_fewer : settled_count old ≤ settled_count new

-- a commit is that of a live attempt
abbrev pub CommitsLive : {Item Value Outcome : Type 0} → World Item Value Outcome → Event Item Value Outcome → Type 0
CommitsLive w (Commit e) = IsSome (attempt_at e.timestamp w.live)
CommitsLive w event = Unit {0}

-- one event after which what was settled stays so; `mark` gives the greatest mark of each version, however marks are kept
abbrev pub EveryEventKeepsSettledEntries : (Item Value Outcome : Type 0) → ((Item → Value) → Type 0) → Type 0
EveryEventKeepsSettledEntries Item Value Outcome Proper =
    (same : Item → Item → Bool) (means : CallMeaning Item Value Outcome) (base : Item → Value) (mark : Item → ℕ → ℕ) (w : World Item Value Outcome) (event : Event Item Value Outcome)
    → IsConsistent same Proper means base mark w.clock w.low w.entries w.live → CommitsLive w event → StaySettled w (after_event same base w event)

-- any number of events
abbrev pub EverySettledEntryStays : (Item Value Outcome : Type 0) → ((Item → Value) → Type 0) → Type 0
EverySettledEntryStays Item Value Outcome Proper =
    (same : Item → Item → Bool) → IsEquality same → (means : CallMeaning Item Value Outcome) (base : Item → Value) (w : World Item Value Outcome) → IsReachable same Proper means base w
    → (events : List (Event Item Value Outcome)) → AllApply same Proper means base w events → StaySettled w (after_events same base w events)
