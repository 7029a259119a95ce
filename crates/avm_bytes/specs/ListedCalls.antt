-- A list of calls, read from its bytes: the count in four bytes, and then each.
use Rattle.std.specs.Prelude.{ℕ, zero, suc, ◌+◌, nat_lt, if◌then◌else◌, List, [], ◌∷◌, length, Result, Ok, Err}
use Rattle.std.specs.Int.{w32}
use Rattle.teal_value.specs.Answer.{◌>>=◌}
use Rattle.avm_ledger.specs.FieldReader.{number_at}
use Rattle.avm_items.specs.declared.call_data.CallData.{CallData}
use Rattle.avm_call_codec.specs.declared.call_data_fault.CallDataFault.TheVariants.{Rest, Truncated}
use Rattle.avm_call_codec.specs.CallReader.{call_from}
use Rattle.avm_call.specs.CallRules.{call_fault}
use Rattle.avm_input.specs.declared.call_line.CallLineFault.{CallLineFault}
use Rattle.avm_input.specs.declared.call_line.CallLineFault.TheVariants as line
use Rattle.avm_input.specs.CallLines.{on_bytes, unless_broken}
use Rattle.avm_bytes.specs.declared.statuses.Status.TheVariants as status
use Rattle.avm_bytes.specs.declared.troubles.Refused.{Refused}
use Rattle.avm_bytes.specs.Attempts.{call_number}
use Rattle.avm_bytes.specs.Troubles.{or_refused, trouble_at}

-- a fault of the call of this number, counted from 1, or of no call where the number is 0
abbrev pub no_call : ℕ → CallLineFault → Refused
no_call number fault = record { status = status.NoCall; trouble = trouble_at number (call_number fault) }

abbrev pub of_call : {A : Type 0} → ℕ → Result A CallLineFault → Result A Refused
of_call number read = or_refused (no_call number) read

-- The call of this number at a place, and the place behind it. Its rules are tested once all of it is read.
abbrev pub listed_call : List ℕ → ℕ → ℕ → Result (CallData × ℕ) Refused
listed_call bytes number place =
    of_call number (on_bytes (call_from bytes place)) >>= λ read. of_call number (unless_broken read.0 (call_fault read.0)) >>= λ call. Ok (call, read.1)

-- so many calls, of which the first has this number and begins at this place, and the place behind them
abbrev pub more_calls : List ℕ → ℕ → ℕ → ℕ → Result (List CallData × ℕ) Refused
more_calls bytes number zero place = Ok ([], place)
more_calls bytes number (suc left) place = do
  call ← listed_call bytes number place
  more ← more_calls bytes (number + 1) left call.1
  Ok (call.0 ∷ more.0, more.1)

-- all of them, behind which no bytes stand
abbrev pub unless_rest : List ℕ → List CallData × ℕ → Result (List CallData) Refused
unless_rest bytes read = if nat_lt read.1 (length bytes) then Err (no_call 0 (line.Bytes Rest)) else Ok read.0

-- the calls that the bytes are
abbrev pub calls_of : List ℕ → Result (List CallData) Refused
calls_of bytes = number_at (no_call 0 (line.Bytes Truncated)) w32 bytes >>= λ count. more_calls bytes 1 count.0 4 >>= unless_rest bytes
