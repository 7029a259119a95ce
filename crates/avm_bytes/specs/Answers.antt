-- Answers, and what a caller finds in the room that it lends.
use Rattle.std.specs.Prelude.{◌≡◌, ◌<◌, ◌≤◌, ◌⊎◌, ℕ, List, [], ◌++◌, drop, length}
use Rattle.avm_bytes.specs.declared.statuses.Status.{Status}
use Rattle.avm_bytes.specs.declared.statuses.Status.TheVariants as status
use Rattle.avm_bytes.specs.Statuses.{status_number}

-- a status, by its number, and the bytes that go with it
pub record Answer : Type 0 where
  pub status : ℕ
  pub bytes : List ℕ

-- the bytes of what was done
abbrev pub done : List ℕ → Answer
done bytes = record { status = status_number status.Done; bytes = bytes }

-- a status alone
abbrev pub refusal : Status → Answer
refusal why = record { status = status_number why; bytes = [] }

-- Room that held old holds new after an answer, with how many bytes the answer has and the status: where it fits, it stands at the
-- beginning, and what is behind it stays; else all stays, and the status says that.
pub record IsPlaced (answer : Answer) (old new : List ℕ) (written result : ℕ) : Type 0 where
  pub counted : written ≡ length answer.bytes
  pub fits : length answer.bytes ≤ length old → (result ≡ answer.status) × (new ≡ answer.bytes ++ drop (length answer.bytes) old)
  pub longer : length old < length answer.bytes → (result ≡ status_number status.NoRoom) × (new ≡ old)

-- memory was refused, and nothing was written
pub record IsWithoutMemory (old new : List ℕ) (written result : ℕ) : Type 0 where
  pub told : result ≡ status_number status.Memory
  pub none : written ≡ 0
  pub unchanged : new ≡ old

-- Memory was refused, or a right answer was put into the room.
abbrev pub IsAnswered : (Answer → Type 0) → List ℕ → List ℕ → ℕ → ℕ → Type 0
IsAnswered answers old new written result =
    IsWithoutMemory old new written result ⊎ ((answer : Answer) × answers answer × IsPlaced answer old new written result)
