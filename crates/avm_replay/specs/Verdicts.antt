-- What a replay finds.
use Rattle.std.specs.Prelude.{◌≡◌, ◌≢◌, ℕ, ◌+◌, List, ◌∷◌, ◌++◌, length, Option, Some, None}
use Rattle.avm_ledger.specs.declared.header.Header.{Header}
use Rattle.avm_ledger.specs.Ledgers.{Ledger}
use Rattle.avm_ledger.specs.Encodings.{ledger_digest}
use Rattle.avm_call.specs.declared.outcome.Outcome.{Outcome}
use Rattle.avm_call.specs.Replay.{outcome_on, outcomes, replayed}
use Rattle.avm_block.specs.declared.entry.Entry.{Entry}
use Rattle.avm_block.specs.Blocks.{Block, Replays, calls_in, calls_of, outcomes_in, outcomes_of}
use Rattle.avm_replay.specs.declared.verdict.Verdict.{Verdict}
use Rattle.avm_replay.specs.declared.verdict.Verdict.TheVariants as verdict

-- Over a ledger the calls of the entries before this one end as the entries say, and its call ends so and not as it says.
pub record IsFirstWrong (l : Ledger) (h : Header) (entries : List Entry) (number : ℕ) (found : Outcome) : Type 0 where
  pub before : List Entry
  pub entry : Entry
  pub behind : List Entry
  pub parts : entries ≡ before ++ entry ∷ behind
  pub numbered : number ≡ length before + 1
  pub agree : outcomes l h (calls_in before) ≡ outcomes_in before
  pub ends : found ≡ outcome_on (replayed l h (calls_in before)) entry.call h
  pub differs : found ≢ entry.outcome

-- what is found of entries over a ledger: the first that ends otherwise; or none, and then all calls were made
abbrev pub Compares : Ledger → Ledger → Header → List Entry → Option (ℕ × Outcome) → Type 0
Compares old new h entries (Some wrong) = IsFirstWrong old h entries wrong.0 wrong.1
Compares old new h entries None = (outcomes old h (calls_in entries) ≡ outcomes_in entries) × (new ≡ replayed old h (calls_in entries))

-- the verdict on a block over a ledger
abbrev pub Judges : Ledger → Block → Verdict → Type 0
Judges l b (verdict.Agrees after) = Replays l b × (after ≡ replayed l b.header (calls_of b))
Judges l b verdict.WrongBase = b.base ≢ ledger_digest l
Judges l b (verdict.WrongOutcome number found) = (b.base ≡ ledger_digest l) × IsFirstWrong l b.header b.entries number found
Judges l b verdict.WrongState =
    (b.base ≡ ledger_digest l) × (outcomes l b.header (calls_of b) ≡ outcomes_of b) × (b.after ≢ ledger_digest (replayed l b.header (calls_of b)))

-- there is one
abbrev pub OneVerdict : Type 0
OneVerdict = (l : Ledger) (b : Block) (v w : Verdict) → Judges l b v → Judges l b w → v ≡ w
