-- What is answered of a block that is applied: the ledger after it, where it agrees.
use Rattle.std.specs.Prelude.{◌≡◌, ◌⊎◌, ℕ, List, Option, Some, None, Result, Ok, Err}
use Rattle.avm_ledger.specs.Ledgers.{Ledger}
use Rattle.avm_ledger.specs.Encodings.{ledger_bytes}
use Rattle.avm_block.specs.Blocks.{Block}
use Rattle.avm_replay.specs.declared.verdict.Verdict.{Verdict}
use Rattle.avm_replay.specs.declared.verdict.Verdict.TheVariants as verdict
use Rattle.avm_replay.specs.Verdicts.{Judges}
use Rattle.avm_bytes.specs.declared.applied.Applied.{Applied as WrittenApplied}
use Rattle.avm_bytes.specs.declared.findings.Difference.{Difference}
use Rattle.avm_bytes.specs.declared.statuses.Status.{Status}
use Rattle.avm_bytes.specs.declared.statuses.Status.TheVariants as status
use Rattle.avm_bytes.specs.Answers.{Answer, IsPlaced, IsWithoutMemory, done, refusal}
use Rattle.avm_bytes.specs.Findings.{difference_of}
use Rattle.avm_bytes.specs.Shown.{answer_shown}

-- an answer, and the first entry that differs, where one does
pub record Applied : Type 0 where
  pub answer : Answer
  pub difference : Option Difference

abbrev pub applied_shown : WrittenApplied → Applied
applied_shown a = record { answer = answer_shown a.answer; difference = a.difference }

abbrev pub without : Answer → Applied
without answer = record { answer = answer; difference = None }

-- what a verdict says
abbrev pub applied_by : Verdict → Applied
applied_by (verdict.Agrees after) = without (done (ledger_bytes after))
applied_by verdict.WrongBase = without (refusal status.WrongBase)
applied_by (verdict.WrongOutcome entry found) = record { answer = refusal status.WrongOutcome; difference = Some (difference_of entry found) }
applied_by verdict.WrongState = without (refusal status.WrongState)

-- what the verdict on the block over the ledger says; or which of the two the bytes are not
abbrev pub IsApplied : Result (Ledger × Block) Status → Applied → Type 0
IsApplied (Ok input) a = (v : Verdict) × Judges input.0 input.1 v × (a ≡ applied_by v)
IsApplied (Err why) a = a ≡ without (refusal why)

-- the difference that is told, or the one that was there
abbrev pub told_difference : Difference → Option Difference → Difference
told_difference old None = old
told_difference old (Some found) = found

-- memory was refused, and nothing was told but that
pub record IsNotApplied (room told : List ℕ) (difference shown : Difference) (written result : ℕ) : Type 0 where
  pub nothing : IsWithoutMemory room told written result
  pub difference_kept : shown ≡ difference

-- Memory was refused; or a right answer was put into the room, and the entry that differs was told, where one does.
abbrev pub IsToldApplied : Result (Ledger × Block) Status → List ℕ → List ℕ → Difference → Difference → ℕ → ℕ → Type 0
IsToldApplied input room told difference shown written result =
    IsNotApplied room told difference shown written result
    ⊎ ((a : Applied) × IsApplied input a × IsPlaced a.answer room told written result × (shown ≡ told_difference difference a.difference))
