-- What is answered of a call over items that the caller knows.
use Rattle.std.specs.Prelude.{◌≡◌, ◌+◌, ◌⊎◌, ℕ, List, Result, Ok, Err}
use Rattle.teal_value.specs.Answer.{◌>>=◌}
use Rattle.avm_ledger.specs.declared.header.Header.{Header}
use Rattle.avm_items.specs.declared.call_data.CallData.{CallData}
use Rattle.avm_items.specs.Items.{ItemMap}
use Rattle.avm_item_codec.specs.ItemReader.{items_at}
use Rattle.avm_item_codec.specs.ItemEncoding.{item_bytes, items_bytes}
use Rattle.avm_call_codec.specs.declared.call_data_fault.CallDataFault.TheVariants as bytes
use Rattle.avm_call.specs.FaultNumbers.{call_fault_number}
use Rattle.avm_run.specs.declared.call_run.Advance.{Advance}
use Rattle.avm_run.specs.declared.call_run.Advance.TheVariants as advance
use Rattle.avm_attempt.specs.Attempts.{IsAttempt}
use Rattle.avm_input.specs.declared.call_line.CallLineFault.{CallLineFault}
use Rattle.avm_input.specs.declared.call_line.CallLineFault.TheVariants as line
use Rattle.avm_input.specs.CallLines.{checked_call}
use Rattle.avm_input.specs.ProposeInputs as inputs
use Rattle.avm_bytes.specs.declared.attempts.Asked.{Asked}
use Rattle.avm_bytes.specs.declared.attempts.Attempted.{Attempted as WrittenAttempted}
use Rattle.avm_bytes.specs.declared.ends.End.{End}
use Rattle.avm_bytes.specs.declared.troubles.Refused.{Refused}
use Rattle.avm_bytes.specs.declared.statuses.Status.TheVariants as status
use Rattle.avm_bytes.specs.Answers.{Answer, IsPlaced, IsWithoutMemory, done, refusal}
use Rattle.avm_bytes.specs.Ends.{end_of}
use Rattle.avm_bytes.specs.Shown.{answer_shown}
use Rattle.avm_bytes.specs.Statuses.{status_number}
use Rattle.avm_bytes.specs.Troubles.{or_refused, refused_for}

-- ---- what is asked

-- the header that the bytes are, of a block that may have calls of all versions
abbrev pub header_of : List ℕ → Result Header Refused
header_of bytes = or_refused (λ _. refused_for status.NoHeader 0) (inputs.header_of bytes)

-- Faults of a call's bytes have the numbers 1 to 3, broken rules of calls those from 17 on.
abbrev pub call_number : CallLineFault → ℕ
call_number (line.Bytes bytes.Field) = 1
call_number (line.Bytes bytes.Truncated) = 2
call_number (line.Bytes bytes.Rest) = 3
call_number (line.Rule f) = 16 + call_fault_number f

abbrev pub call_of : List ℕ → Result CallData Refused
call_of bytes = or_refused (λ fault. refused_for status.NoCall (call_number fault)) (checked_call bytes)

abbrev pub items_of : List ℕ → Result ItemMap Refused
items_of bytes = or_refused (λ _. refused_for status.NoItems 0) (items_at bytes)

-- The header is read first, then the call, then the known items.
abbrev pub asked_of : List ℕ → List ℕ → List ℕ → Result Asked Refused
asked_of header call known =
    header_of header >>= λ h. call_of call >>= λ c. items_of known >>= λ k. Ok (record { header = h; call = c; known = k })

-- ---- what is answered

-- an answer, and how the call ends
pub record Attempted : Type 0 where
  pub answer : Answer
  pub end : End

abbrev pub attempted_shown : WrittenAttempted → Attempted
attempted_shown a = record { answer = answer_shown a.answer; end = a.end }

abbrev pub not_made : Refused → Attempted
not_made r = record { answer = refusal r.status; end = record { ending = 0; number = r.trouble.number; place = 0 } }

-- the item that is asked for; or what the call writes, and how it ends
abbrev pub of_advance : Advance → Attempted
of_advance (advance.Need x) = record {
  answer = record { status = status_number status.Needs; bytes = item_bytes x };
  end = record { ending = 0; number = 0; place = 0 };
}
of_advance (advance.Done f) = record { answer = done (items_bytes f.writes); end = end_of f.outcome }

abbrev pub IsAttempted : Result Asked Refused → Attempted → Type 0
IsAttempted (Ok asked) a = (came : Advance) × IsAttempt asked.call asked.header asked.known came × (a ≡ of_advance came)
IsAttempted (Err r) a = a ≡ not_made r

-- ---- what C is told

-- memory was refused, and nothing was told but that
pub record IsNotAttempted (room told : List ℕ) (end shown : End) (written result : ℕ) : Type 0 where
  pub nothing : IsWithoutMemory room told written result
  pub end_kept : shown ≡ end

-- Memory was refused; or a right answer was put into the room, and how the call ends was told.
abbrev pub IsTold : (Attempted → Type 0) → List ℕ → List ℕ → End → End → ℕ → ℕ → Type 0
IsTold answers room told end shown written result =
    IsNotAttempted room told end shown written result
    ⊎ ((a : Attempted) × answers a × IsPlaced a.answer room told written result × (shown ≡ a.end))
