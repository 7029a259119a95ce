-- What is answered of calls that are made one after another: their block.
use Rattle.std.specs.Prelude.{◌≡◌, ◌⊎◌, ℕ, List, Option, Some, None, Result, Ok, Err}
use Rattle.teal_value.specs.Answer.{◌>>=◌}
use Rattle.avm_ledger.specs.declared.header.Header.{Header}
use Rattle.avm_ledger.specs.Ledgers.{Ledger}
use Rattle.avm_items.specs.declared.call_data.CallData.{CallData}
use Rattle.avm_block.specs.declared.block_calls.CallsFault.{CallsFault}
use Rattle.avm_block.specs.declared.block_calls.CallsFault.TheVariants.{Profile, TooMany}
use Rattle.avm_block.specs.Blocks.{Block}
use Rattle.avm_block.specs.BlockEncoding.{block_bytes}
use Rattle.avm_block.specs.CallsFaults.{calls_fault}
use Rattle.avm_replay.specs.Plain.{IsPlainBlock}
use Rattle.avm_bytes.specs.declared.proposals.CallsOnLedger.{CallsOnLedger as WrittenCalls}
use Rattle.avm_bytes.specs.declared.proposals.Proposed.{Proposed as WrittenProposed}
use Rattle.avm_bytes.specs.declared.statuses.Status.{Status}
use Rattle.avm_bytes.specs.declared.statuses.Status.TheVariants as status
use Rattle.avm_bytes.specs.declared.troubles.Refused.{Refused}
use Rattle.avm_bytes.specs.declared.troubles.Trouble.{Trouble}
use Rattle.avm_bytes.specs.Answers.{Answer, IsPlaced, IsWithoutMemory, done, refusal}
use Rattle.avm_bytes.specs.Attempts.{header_of}
use Rattle.avm_bytes.specs.Calls.{ledger_in}
use Rattle.avm_bytes.specs.ListedCalls.{calls_of}
use Rattle.avm_bytes.specs.Shown.{answer_shown}
use Rattle.avm_bytes.specs.Troubles.{told_trouble, trouble_at}

-- ---- what is asked

-- the ledger before the calls, their block's header, and the calls
pub record CallsOnLedger : Type 0 where
  pub ledger : Ledger
  pub header : Header
  pub calls : List CallData

abbrev pub calls_shown : WrittenCalls → CallsOnLedger
calls_shown d = record { ledger = d.ledger; header = d.header; calls = d.calls.items }

-- The ledger is read first, then the header, then the calls.
abbrev pub calls_on_ledger : List ℕ → List ℕ → List ℕ → Result CallsOnLedger Refused
calls_on_ledger ledger header calls =
    ledger_in ledger >>= λ l. header_of header >>= λ h. calls_of calls >>= λ cs. Ok (record { ledger = l; header = h; calls = cs })

-- ---- what is answered

-- an answer, and what is wrong with which call, where one is none
pub record Proposed : Type 0 where
  pub answer : Answer
  pub trouble : Option Trouble

abbrev pub proposed_shown : WrittenProposed → Proposed
proposed_shown p = record { answer = answer_shown p.answer; trouble = p.trouble }

abbrev pub proposed : Block → Proposed
proposed b = record { answer = done (block_bytes b); trouble = None }

-- what is wrong, where it is with calls
abbrev pub trouble_of : Status → Trouble → Option Trouble
trouble_of status.NoCall trouble = Some trouble
trouble_of _ trouble = None

abbrev pub not_proposed : Refused → Proposed
not_proposed r = record { answer = refusal r.status; trouble = trouble_of r.status r.trouble }

-- why calls make no block
abbrev pub no_block : CallsFault → Refused
no_block TooMany = record { status = status.NoCall; trouble = trouble_at 0 33 }
no_block (Profile number) = record { status = status.NoCall; trouble = trouble_at number 34 }

-- the block of the calls in their order, which replays; or why they make none
abbrev pub IsMade : CallsOnLedger → Option CallsFault → Proposed → Type 0
IsMade d None p = (b : Block) × IsPlainBlock d.ledger d.header d.calls b × (p ≡ proposed b)
IsMade d (Some fault) p = p ≡ not_proposed (no_block fault)

abbrev pub IsProposed : Result CallsOnLedger Refused → Proposed → Type 0
IsProposed (Ok d) p = IsMade d (calls_fault d.header d.calls) p
IsProposed (Err r) p = p ≡ not_proposed r

-- ---- what C is told

-- memory was refused, and nothing was told but that
pub record IsNotProposed (room told : List ℕ) (trouble shown : Trouble) (written result : ℕ) : Type 0 where
  pub nothing : IsWithoutMemory room told written result
  pub trouble_kept : shown ≡ trouble

-- Memory was refused; or a right answer was put into the room, and what is wrong with which call was told, where one is none.
abbrev pub IsToldProposed : Result CallsOnLedger Refused → List ℕ → List ℕ → Trouble → Trouble → ℕ → ℕ → Type 0
IsToldProposed asked room told trouble shown written result =
    IsNotProposed room told trouble shown written result
    ⊎ ((p : Proposed) × IsProposed asked p × IsPlaced p.answer room told written result × (shown ≡ told_trouble trouble p.trouble))
