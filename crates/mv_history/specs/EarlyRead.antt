-- A creation that was read too early, computed: call 1 creates the next application, which call 2 has found absent
-- at a greater timestamp. A creation writes an application that it has not read; that no application stands from
-- the next one on holds of every proper look-up.
use Rattle.std.specs.Prelude.{◌≡◌, ℕ, ◌+◌, ◌≤◌, ◌==◌, Bool, true, false, not, if◌then◌else◌, List, [], ◌∷◌, ◌++◌, filter}
use Rattle.mv_history.specs.History.{Entry, CallMeaning, state_below}
use Rattle.mv_history.specs.World.{World, Event, Begin, Read, Commit, Abandon, first_world, AllApply, after_events}
use Rattle.mv_history.specs.Laws.{IsLate}

pub data Item : Type 0 where
  Next : Item
  Application : ℕ → Item

abbrev pub same : Item → Item → Bool
same Next Next = true
same (Application i) (Application j) = i == j
same x y = false

-- 1 where an application stands, 0 where it is absent
abbrev pub Proper : (Item → ℕ) → Type 0
Proper look = (i : ℕ) → look Next ≤ i → look (Application i) ≡ 0

-- the writes that change something
abbrev pub changes : (Item → ℕ) → List (Item × ℕ) → List (Item × ℕ)
changes look writes = filter (λ write. not (look write.0 == write.1)) writes

-- call 1 creates the next application, and call 2 tells whether application 2 stands
abbrev pub means : CallMeaning Item ℕ ℕ
means number look = if number == 1 then (look Next, changes look ((Next, look Next + 1) ∷ (Application (look Next), 1) ∷ [])) else (look (Application 2), [])

-- application 1 stands
abbrev pub base : Item → ℕ
base Next = 2
base (Application i) = if i == 1 then 1 else 0

-- call 2 commits that application 2 is absent
abbrev pub absence : Entry Item ℕ ℕ
absence = record { timestamp = 2; number = 2; outcome = 0; reads = (Application 2, 0) ∷ []; writes = [] }

-- call 2 reads and commits before call 1 reads which application is next
abbrev pub reads_first : List (Event Item ℕ ℕ)
reads_first = Begin 1 ∷ Begin 2 ∷ Read 2 0 (Application 2) ∷ Commit absence ∷ Read 1 0 Next ∷ []

-- what call 1 commits at a timestamp
abbrev pub creation_at : ℕ → Entry Item ℕ ℕ
creation_at timestamp = record { timestamp = timestamp; number = 1; outcome = 2; reads = (Next, 2) ∷ []; writes = (Next, 3) ∷ (Application 2, 1) ∷ [] }

abbrev pub events : List (Event Item ℕ ℕ)
events = reads_first ++ (Abandon 1 ∷ Begin 1 ∷ Read 3 0 Next ∷ Commit (creation_at 3) ∷ [])

abbrev pub world_after : List (Event Item ℕ ℕ) → World Item ℕ ℕ
world_after events = after_events same base first_world events

-- the first commit of call 1 is late: application 2 has the base's version, absent, which the attempt at 2 read
abbrev pub FirstCommitIsLate : Type 0
FirstCommitIsLate = IsLate same base (world_after reads_first).marks (world_after reads_first).entries (creation_at 1) (Application 2) 0 2

abbrev pub EventsApply : Type 0
EventsApply = AllApply same Proper means base first_world events

abbrev pub CreationComesLast : Type 0
CreationComesLast = (world_after events).entries ≡ absence ∷ creation_at 3 ∷ []

abbrev pub CreationStands : Type 0
CreationStands = (state_below same base (world_after events).entries 4 (Application 2) ≡ 1) × (state_below same base (world_after events).entries 4 Next ≡ 3)
