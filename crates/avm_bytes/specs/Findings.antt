-- What a replay finds, and what of it C is told.
use Rattle.std.specs.Prelude.{◌≡◌, ◌⊎◌, ℕ, List, Result, Ok, Err}
use Rattle.avm_ledger.specs.Ledgers.{Ledger}
use Rattle.avm_ledger.specs.Encodings.{ledger_digest}
use Rattle.avm_call.specs.declared.outcome.Outcome.{Outcome}
use Rattle.avm_block.specs.Blocks.{Block}
use Rattle.avm_replay.specs.declared.verdict.Verdict.{Verdict}
use Rattle.avm_replay.specs.declared.verdict.Verdict.TheVariants as verdict
use Rattle.avm_replay.specs.Verdicts.{Judges}
use Rattle.avm_bytes.specs.declared.findings.Difference.{Difference}
use Rattle.avm_bytes.specs.declared.findings.Finding.{Finding}
use Rattle.avm_bytes.specs.declared.findings.Finding.TheVariants as finding
use Rattle.avm_bytes.specs.declared.statuses.Status.{Status}
use Rattle.avm_bytes.specs.declared.statuses.Status.TheVariants as status
use Rattle.avm_bytes.specs.Ends.{end_of}
use Rattle.avm_bytes.specs.Statuses.{status_number}

-- how the call of an entry ends
abbrev pub difference_of : ℕ → Outcome → Difference
difference_of entry found = record {
  entry = entry;
  ending = (end_of found).ending;
  number = (end_of found).number;
  place = (end_of found).place;
}

-- what a verdict says
abbrev pub finding_of : Verdict → Finding
finding_of (verdict.Agrees after) = finding.Agrees (ledger_digest after)
finding_of verdict.WrongBase = finding.Other status.WrongBase
finding_of (verdict.WrongOutcome entry found) = finding.Differs (difference_of entry found)
finding_of verdict.WrongState = finding.Other status.WrongState

-- what the verdict on the block over the ledger says; or which of the two the bytes are not
abbrev pub IsFinding : Result (Ledger × Block) Status → Finding → Type 0
IsFinding (Ok input) found = (v : Verdict) × Judges input.0 input.1 v × (found ≡ finding_of v)
IsFinding (Err why) found = found ≡ finding.Other why

-- What C is told: the status; the digest where the block agrees, and the difference where an entry differs. What is not told
-- stays as it was.
abbrev pub IsWrittenFinding : Finding → List ℕ → List ℕ → Difference → Difference → ℕ → Type 0
IsWrittenFinding (finding.Agrees after) digest told difference shown result = (result ≡ status_number status.Done) × (told ≡ after) × (shown ≡ difference)
IsWrittenFinding (finding.Differs found) digest told difference shown result = (result ≡ status_number status.WrongOutcome) × (told ≡ digest) × (shown ≡ found)
IsWrittenFinding (finding.Other why) digest told difference shown result = (result ≡ status_number why) × (told ≡ digest) × (shown ≡ difference)

-- memory was refused, and nothing was told but that
pub record IsNotFound (digest told : List ℕ) (difference shown : Difference) (result : ℕ) : Type 0 where
  pub memory : result ≡ status_number status.Memory
  pub digest_kept : told ≡ digest
  pub difference_kept : shown ≡ difference

-- Memory was refused, or what a replay finds was told.
abbrev pub IsFound : Result (Ledger × Block) Status → List ℕ → List ℕ → Difference → Difference → ℕ → Type 0
IsFound input digest told difference shown result =
    IsNotFound digest told difference shown result
    ⊎ ((found : Finding) × IsFinding input found × IsWrittenFinding found digest told difference shown result)
