-- Write skew, computed: two calls each read both items and write one of them. Were both to commit on what they
-- first read, no serial order would give their outcomes.
use Rattle.std.specs.Prelude.{◌≡◌, ℕ, ◌+◌, ◌==◌, Bool, true, false, if◌then◌else◌, List, [], ◌∷◌, ◌++◌}
use Rattle.mv_history.specs.History.{Entry, CallMeaning, state_below}
use Rattle.mv_history.specs.World.{World, Event, Begin, Read, Commit, Abandon, first_world, AllApply, after_events}
use Rattle.mv_history.specs.Laws.{IsLate}

pub data Account : Type 0 where
  X : Account
  Y : Account

abbrev pub same : Account → Account → Bool
same X X = true
same Y Y = true
same x y = false

-- each look-up is proper
abbrev pub Proper : (Account → ℕ) → Type 0
Proper look = Unit {0}

-- call 1 sets X to one more than Y, and call 2 sets Y to one more than X
abbrev pub means : CallMeaning Account ℕ ℕ
means number look = if number == 1 then (look Y + 1, (X, look Y + 1) ∷ []) else (look X + 1, (Y, look X + 1) ∷ [])

abbrev pub base : Account → ℕ
base x = 0

-- both calls read both items
abbrev pub reads_first : List (Event Account ℕ ℕ)
reads_first = Begin 1 ∷ Read 1 0 X ∷ Read 1 1 Y ∷ Begin 2 ∷ Read 2 0 X ∷ Read 2 1 Y ∷ []

-- call 1 would commit on what it read first; call 2 does; then call 1 does on what it reads again
abbrev pub late_entry : Entry Account ℕ ℕ
late_entry = record { timestamp = 1; number = 1; outcome = 1; reads = (X, 0) ∷ (Y, 0) ∷ []; writes = (X, 1) ∷ [] }

abbrev pub second_entry : Entry Account ℕ ℕ
second_entry = record { timestamp = 2; number = 2; outcome = 1; reads = (X, 0) ∷ (Y, 0) ∷ []; writes = (Y, 1) ∷ [] }

abbrev pub first_entry : Entry Account ℕ ℕ
first_entry = record { timestamp = 3; number = 1; outcome = 2; reads = (X, 0) ∷ (Y, 1) ∷ []; writes = (X, 2) ∷ [] }

abbrev pub events : List (Event Account ℕ ℕ)
events = reads_first ++ (Abandon 1 ∷ Commit second_entry ∷ Begin 1 ∷ Read 3 0 X ∷ Read 3 1 Y ∷ Commit first_entry ∷ [])

abbrev pub world_after : List (Event Account ℕ ℕ) → World Account ℕ ℕ
world_after events = after_events same base first_world events

-- the first commit of call 1 is late: X has the base's version, which the attempt at 2 read
abbrev pub FirstCommitIsLate : Type 0
FirstCommitIsLate = IsLate same base (world_after reads_first).marks (world_after reads_first).entries late_entry X 0 2

abbrev pub EventsApply : Type 0
EventsApply = AllApply same Proper means base first_world events

abbrev pub SecondCallComesFirst : Type 0
SecondCallComesFirst = (world_after events).entries ≡ second_entry ∷ first_entry ∷ []

abbrev pub ValuesAreSerial : Type 0
ValuesAreSerial = (state_below same base (world_after events).entries 4 X ≡ 2) × (state_below same base (world_after events).entries 4 Y ≡ 1)
