-- What `replay` and `state` answer to their input: a line of digits for the ledger before a block, and one for the block.
use Rattle.std.specs.Prelude.{◌≡◌, ℕ, ◌++◌, List, Result, Ok, Err, codes, decimal, if◌then◌else◌}
use Rattle.hex.specs.Hex.{encode_lower}
use Rattle.teal_value.specs.Answer.{◌>>=◌}
use Rattle.teal_value.specs.SameValues.{are_same_bytes}
use Rattle.avm_ledger.specs.Ledgers.{Ledger}
use Rattle.avm_ledger.specs.Encodings.{ledger_bytes, ledger_digest}
use Rattle.avm_block.specs.Blocks.{Block}
use Rattle.avm_replay.specs.declared.verdict.Verdict.{Verdict}
use Rattle.avm_replay.specs.declared.verdict.Verdict.TheVariants as verdict
use Rattle.avm_block.specs.declared.past_faults.StateFault.TheVariants as state_fault
use Rattle.avm_replay.specs.Verdicts.{Judges}
use Rattle.avm_replay.specs.Past.{ledger_until}
use Rattle.avm_input.specs.declared.refusals.Refusal.{Refusal}
use Rattle.avm_input.specs.declared.refusals.Refusal.TheVariants as refusal
use Rattle.avm_input.specs.Outcomes.{outcome_text}
use Rattle.avm_input.specs.Replies.{Reply, succeeded, refused}
use Rattle.avm_input.specs.Refusals.{refusal_reply}
use Rattle.avm_input.specs.DigitLines.{digit_lines}
use Rattle.avm_input.specs.BlockLines.{ledger_and_block}

-- the words of a verdict; of agreement with the digest of the ledger after
abbrev pub verdict_text : Verdict → List ℕ
verdict_text (verdict.Agrees after) = codes "agrees " ++ encode_lower (ledger_digest after)
verdict_text verdict.WrongBase = codes "wrong base"
verdict_text (verdict.WrongOutcome entry found) = codes "wrong outcome " ++ (decimal entry ++ (codes " " ++ outcome_text found))
verdict_text verdict.WrongState = codes "wrong state"

abbrev pub verdict_status : Verdict → ℕ
verdict_status (verdict.Agrees after) = succeeded
verdict_status verdict.WrongBase = refused
verdict_status (verdict.WrongOutcome entry found) = refused
verdict_status verdict.WrongState = refused

abbrev pub verdict_reply : Verdict → Reply
verdict_reply v = record { text = verdict_text v ++ codes "\n"; status = verdict_status v }

-- where a block agrees, this is the digest of the ledger after it
abbrev pub HasDigest : Verdict → List ℕ → Type 0
HasDigest (verdict.Agrees after) digest = digest ≡ ledger_digest after
HasDigest verdict.WrongBase digest = Unit {0}
HasDigest (verdict.WrongOutcome entry found) digest = Unit {0}
HasDigest verdict.WrongState digest = Unit {0}

-- the verdict on the block over the ledger, or the refusal
abbrev pub IsVerdictReply : Result (Ledger × Block) Refusal → Reply → Type 0
IsVerdictReply (Ok input) reply = (v : Verdict) × Judges input.0 input.1 v × (reply ≡ verdict_reply v)
IsVerdictReply (Err why) reply = reply ≡ refusal_reply why

-- what `replay` answers to an input
abbrev pub IsReplayReply : List ℕ → Reply → Type 0
IsReplayReply input reply = IsVerdictReply (ledger_and_block (digit_lines input)) reply

-- the ledger at a timestamp, unless the block stands over another
abbrev pub past_of : ℕ → Ledger × Block → Result Ledger Refusal
past_of timestamp input =
    if are_same_bytes input.1.base (ledger_digest input.0) then Ok (ledger_until input.0 input.1 timestamp) else Err (refusal.State state_fault.WrongBase)

-- the ledger at a timestamp, of an input
abbrev pub past_ledger_at : ℕ → List ℕ → Result Ledger Refusal
past_ledger_at timestamp input = ledger_and_block (digit_lines input) >>= past_of timestamp

abbrev pub ledger_reply : Result Ledger Refusal → Reply
ledger_reply (Ok l) = record { text = encode_lower (ledger_bytes l) ++ codes "\n"; status = succeeded }
ledger_reply (Err why) = refusal_reply why

-- what `state --at T` answers to an input
abbrev pub state_reply : ℕ → List ℕ → Reply
state_reply timestamp input = ledger_reply (past_ledger_at timestamp input)
