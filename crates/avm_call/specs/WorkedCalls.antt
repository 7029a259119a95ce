-- Calls over a ledger without applications, on which replay is computed.
use Rattle.std.specs.Prelude.{ℕ, List, [], ◌∷◌, Option, Some, None}
use Rattle.teal_value.specs.declared.value.Value.{Value}
use Rattle.avm_states.specs.declared.schema.Schema.{Schema}
use Rattle.avm_ledger.specs.declared.header.Profile.TheVariants as profile
use Rattle.avm_states.specs.Entries.{Entries, value_of_key}
use Rattle.avm_ledger.specs.declared.application.StoredApplication.{StoredApplication}
use Rattle.avm_ledger.specs.Ledgers.{Ledger, empty_ledger, application_at, local_state_at}
use Rattle.avm_items.specs.declared.call_data.Completion.{Completion}
use Rattle.avm_items.specs.declared.call_data.CallData.{CallData}
use Rattle.avm_call.specs.declared.outcome.Outcome.{Outcome}
use Rattle.avm_call.specs.Replay.{outcomes, replayed}
use Rattle.avm_call.specs.WorkedPrograms.{zero_address, zero_header, plain_call}

-- a call of application 1, the first that is made
abbrev pub call_one : Completion → CallData
call_one done = plain_call zero_address 1 done

-- one uint alone may stand in the state
abbrev pub one_uint_allowed : Schema
one_uint_allowed = record { uints = 1; bytes = 0 }

abbrev pub outcomes_of_calls : List CallData → List Outcome
outcomes_of_calls calls = outcomes empty_ledger (zero_header profile.Two) calls

abbrev pub ledger_after_calls : List CallData → Ledger
ledger_after_calls calls = replayed empty_ledger (zero_header profile.Two) calls

-- approves
abbrev pub approving : List ℕ
approving = 0x02 ∷ 0x20 ∷ 0x01 ∷ 0x01 ∷ 0x22 ∷ []

-- puts one more than the uint under the key n there
abbrev pub counting : List ℕ
counting = 0x02 ∷ 0x20 ∷ 0x01 ∷ 0x01 ∷ 0x26 ∷ 0x01 ∷ 0x01 ∷ 0x6e ∷ 0x28 ∷ 0x28 ∷ 0x64 ∷ 0x22 ∷ 0x08 ∷ 0x67 ∷ 0x22 ∷ []

-- puts a uint under the key n of the global state, and then errs
abbrev pub put_and_err : List ℕ
put_and_err = 0x02 ∷ 0x20 ∷ 0x01 ∷ 0x01 ∷ 0x26 ∷ 0x01 ∷ 0x01 ∷ 0x6e ∷ 0x28 ∷ 0x22 ∷ 0x67 ∷ 0x00 ∷ []

-- puts a uint under the key n, and then bytes
abbrev pub uint_then_bytes : List ℕ
uint_then_bytes = 0x02 ∷ 0x20 ∷ 0x01 ∷ 0x01 ∷ 0x26 ∷ 0x01 ∷ 0x01 ∷ 0x6e ∷ 0x28 ∷ 0x22 ∷ 0x67 ∷ 0x28 ∷ 0x28 ∷ 0x67 ∷ 0x22 ∷ []

-- puts a uint under the key n, deletes it, and puts it again
abbrev pub put_delete_put : List ℕ
put_delete_put = 0x02 ∷ 0x20 ∷ 0x01 ∷ 0x01 ∷ 0x26 ∷ 0x01 ∷ 0x01 ∷ 0x6e ∷ 0x28 ∷ 0x22 ∷ 0x67 ∷ 0x28 ∷ 0x69 ∷ 0x28 ∷ 0x22 ∷ 0x67 ∷ 0x22 ∷ []

-- approves a creation; else puts a uint under the key n of the sender's local state, and rejects
abbrev pub local_put_and_reject : List ℕ
local_put_and_reject =
    0x02 ∷ 0x20 ∷ 0x02 ∷ 0x00 ∷ 0x01 ∷ 0x26 ∷ 0x01 ∷ 0x01 ∷ 0x6e ∷ 0x31 ∷ 0x18 ∷ 0x40 ∷ 0x00 ∷ 0x02 ∷ 0x23 ∷ 0x43 ∷ 0x22 ∷ 0x28 ∷ 0x23 ∷ 0x66 ∷ 0x22 ∷ []

abbrev state_of : Option StoredApplication → Entries
state_of None = []
state_of (Some app) = app.state

-- the value of the key n of application 1's global state, the local state of the zero address, and the next id
abbrev pub counter_after : List CallData → Option Value
counter_after calls = value_of_key (state_of (application_at (ledger_after_calls calls) 1)) (0x6e ∷ [])

abbrev pub local_state_after : List CallData → Option Entries
local_state_after calls = local_state_at (ledger_after_calls calls) zero_address 1

abbrev pub next_id_after : List CallData → ℕ
next_id_after calls = (ledger_after_calls calls).next_id
