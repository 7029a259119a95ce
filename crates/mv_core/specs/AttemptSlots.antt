-- A slot for the attempt of each call: what the live attempts have read is kept there.
use Rattle.std.specs.Prelude.{◌≡◌, ◌≢◌, ℕ, ◌+◌, ◌-◌, ◌<◌, ◌==◌, if◌then◌else◌, List, [], ◌∷◌, length, get_or, Option, None, Some}
use Rattle.mv_history.specs.World.{Attempt, attempt_at, live_count}

-- a slot for each call, the first for call 1
abbrev pub AttemptSlots : Type 0 → Type 0 → Type 0
AttemptSlots Item Value = List (Option (Attempt Item Value))

abbrev pub reads_or : {Item Value : Type 0} → Option (Attempt Item Value) → List (Item × Value)
reads_or None = []
reads_or (Some a) = a.reads

-- what the attempt of a call has read
abbrev pub reads_of_call : {Item Value : Type 0} → AttemptSlots Item Value → ℕ → List (Item × Value)
reads_of_call slots number = if number == 0 then [] else reads_or (get_or slots (number - 1) None)

-- live attempts, with what they have read
abbrev pub live_in : {Item Value : Type 0} → AttemptSlots Item Value → List (Attempt Item Value) → List (Attempt Item Value)
live_in slots [] = []
live_in slots (a ∷ as') = record a { reads = reads_of_call slots a.number } ∷ live_in slots as'

-- the live attempt at a timestamp is of this call
pub record HasLiveNumber {Item Value : Type 0} (attempts : List (Attempt Item Value)) (n t : ℕ) : Type 0 where
  pub attempt : Attempt Item Value
  pub live : attempt_at t attempts ≡ Some attempt
  pub number : attempt.number ≡ n

-- the slot of a call has an attempt of it where the call is live, with its timestamp, and else none
abbrev pub IsSlotOf : {Item Value : Type 0} → List (Attempt Item Value) → ℕ → Option (Attempt Item Value) → Type 0
IsSlotOf live number None = live_count number live ≡ 0
IsSlotOf live number (Some a) = (a.number ≡ number) × HasLiveNumber live number a.timestamp

abbrev pub AreSlotsOf : {Item Value : Type 0} → List (Attempt Item Value) → AttemptSlots Item Value → Type 0
AreSlotsOf live slots = (i : ℕ) → i < length slots → IsSlotOf live (i + 1) (get_or slots i None)

-- ---- by number and timestamp

-- the slot has an attempt with the timestamp
pub record IsAttemptAt {Item Value : Type 0} (slots : AttemptSlots Item Value) (n t index : ℕ) : Type 0 where
  pub attempt : Attempt Item Value
  pub found : get_or slots index None ≡ Some attempt
  pub time : attempt.timestamp ≡ t
  pub above : 0 < n
  pub within : n - 1 < length slots
  pub is : index ≡ n - 1

-- the slot of the number, if it is one, has no such attempt
abbrev pub IsNowhere : {Item Value : Type 0} → AttemptSlots Item Value → ℕ → ℕ → Type 0
IsNowhere {Item} {Value} slots n t = (a : Attempt Item Value) → 0 < n → get_or slots (n - 1) None ≡ Some a → a.timestamp ≢ t

-- so many slots, none with an attempt
pub record AreEmpty {Item Value : Type 0} (count : ℕ) (slots : AttemptSlots Item Value) : Type 0 where
  pub are : length slots ≡ count
  pub each : (i : ℕ) → get_or slots i None ≡ None
