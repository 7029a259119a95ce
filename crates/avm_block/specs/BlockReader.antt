-- Reading a block from its bytes: its fields in order, and the first that no block has or that the bytes end in. Which
-- calls a block of a profile may have is a test that is given: accepted profile call.
use Rattle.std.specs.Prelude.{ℕ, zero, suc, ◌-◌, ◌==◌, Bool, nat_lt, nat_le, if◌then◌else◌, List, [], ◌∷◌, length, take, Result, Ok, Err}
use Rattle.std.specs.Int.{w8, w32, w64}
use Rattle.sha2.specs.Sha256.{sha256}
use Rattle.teal_value.specs.Answer.{◌>>=◌}
use Rattle.teal_value.specs.SameValues.{are_same_bytes}
use Rattle.avm_ledger.specs.declared.header.Header.{Header}
use Rattle.avm_ledger.specs.declared.header.Profile.{Profile}
use Rattle.avm_ledger.specs.declared.header.Profile.TheVariants as profile
use Rattle.avm_ledger.specs.FieldReader.{Front, bytes_at, number_at}
use Rattle.avm_call_codec.specs.declared.call_data_fault.CallDataFault.{CallDataFault}
use Rattle.avm_call_codec.specs.declared.call_data_fault.CallDataFault.TheVariants as call_fault
use Rattle.avm_items.specs.declared.call_data.CallData.{CallData}
use Rattle.avm_call_codec.specs.CallReader.{call_front}
use Rattle.avm_block.specs.declared.block_fault.BlockFault.{BlockFault}
use Rattle.avm_block.specs.declared.block_fault.BlockFault.TheVariants.{Magic, Format, Truncated, Rest, Order, Field, Digest}
use Rattle.avm_block.specs.declared.entry.Entry.{Entry}
use Rattle.avm_block.specs.Blocks.{Block, most_calls}
use Rattle.avm_block.specs.BlockEncoding.{magic}
use Rattle.avm_block.specs.OutcomeReader.{outcome_at}

-- the letters, one field
abbrev pub magic_at : List ℕ → Front BlockFault (List ℕ)
magic_at bytes = bytes_at Truncated 4 bytes >>= λ m. if are_same_bytes m.0 magic then Ok m else Err Magic

abbrev pub profile_of_format : ℕ × List ℕ → Front BlockFault Profile
profile_of_format format =
    if format.0 == 1 then Ok (profile.Two, format.1)
    else if format.0 == 2 then (number_at Truncated w8 format.1 >>= λ p. if p.0 == 3 then Ok (profile.Three, p.1) else Err Field)
    else Err Format

abbrev pub profile_at : List ℕ → Front BlockFault Profile
profile_at bytes = number_at Truncated w8 bytes >>= profile_of_format

abbrev pub header_at : Profile → List ℕ → Front BlockFault Header
header_at in_profile bytes = do
  round ← number_at Truncated w64 bytes
  latest ← number_at Truncated w64 round.1
  fee ← number_at Truncated w64 latest.1
  balance ← number_at Truncated w64 fee.1
  life ← number_at Truncated w64 balance.1
  Ok (record { profile = in_profile; round = round.0; latest_timestamp = latest.0; min_fee = fee.0; min_balance = balance.0; max_life = life.0 }, life.1)

-- a timestamp above the one before
abbrev pub timestamp_at : ℕ → List ℕ → Front BlockFault ℕ
timestamp_at before bytes = number_at Truncated w64 bytes >>= λ t. if nat_lt before t.0 then Ok t else Err Order

-- a fault of a call's bytes, as a fault of the block's
abbrev pub block_fault_of : CallDataFault → BlockFault
block_fault_of call_fault.Truncated = Truncated
block_fault_of call_fault.Field = Field
block_fault_of call_fault.Rest = Rest

abbrev pub in_block : {A : Type 0} → Result A CallDataFault → Result A BlockFault
in_block (Ok x) = Ok x
in_block (Err e) = Err (block_fault_of e)

-- What a call breaks stands at its end.
abbrev pub call_in : (CallData → Bool) → List ℕ → Front BlockFault CallData
call_in accepted bytes = in_block (call_front bytes) >>= λ call. if accepted call.0 then Ok call else Err Field

abbrev pub block_entry_at : (CallData → Bool) → ℕ → List ℕ → Front BlockFault Entry
block_entry_at accepted before bytes = do
  t ← timestamp_at before bytes
  call ← call_in accepted t.1
  end ← outcome_at call.1
  Ok (record { timestamp = t.0; call = call.0; outcome = end.0 }, end.1)

-- so many entries, behind a timestamp
abbrev pub block_entries_at : (CallData → Bool) → ℕ → ℕ → List ℕ → Front BlockFault (List Entry)
block_entries_at accepted zero before bytes = Ok ([], bytes)
block_entries_at accepted (suc n) before bytes = do
  e ← block_entry_at accepted before bytes
  es ← block_entries_at accepted n e.0.timestamp e.1
  Ok (e.0 ∷ es.0, es.1)

abbrev pub count_at : List ℕ → Front BlockFault ℕ
count_at bytes = number_at Truncated w32 bytes >>= λ n. if nat_le n.0 most_calls then Ok n else Err Field

-- all up to the last digest
abbrev pub body_at : (Profile → CallData → Bool) → List ℕ → Front BlockFault Block
body_at accepted bytes = do
  letters ← magic_at bytes
  in_profile ← profile_at letters.1
  base ← bytes_at Truncated 32 in_profile.1
  header ← header_at in_profile.0 base.1
  count ← count_at header.1
  entries ← block_entries_at (accepted in_profile.0) count.0 0 count.1
  after ← bytes_at Truncated 32 entries.1
  Ok (record { base = base.0; header = header.0; entries = entries.0; after = after.0 }, after.1)

-- The last digest is that of all bytes before it, and nothing follows.
abbrev pub sealed : List ℕ → Block × List ℕ → Result Block BlockFault
sealed bytes b =
    bytes_at Truncated 32 b.1 >>= λ digest.
    if length digest.1 == 0
    then (if are_same_bytes digest.0 (sha256 (take (length bytes - length b.1) bytes)) then Ok b.0 else Err Digest)
    else Err Rest

-- the block that the bytes are
abbrev pub block_at : (Profile → CallData → Bool) → List ℕ → Result Block BlockFault
block_at accepted bytes = body_at accepted bytes >>= sealed bytes
