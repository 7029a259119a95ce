-- Why calls make no block under a header.
use Rattle.std.specs.Prelude.{◌≡◌, ℕ, nat_lt, if◌then◌else◌, List, codes, length, Option, None, Some, option_map}
use Rattle.teal_value.specs.declared.failure.Failure.{Failure}
use Rattle.teal_value.specs.declared.failure.Failure.TheVariants as failure
use Rattle.avm_ledger.specs.declared.header.Header.{Header}
use Rattle.avm_items.specs.declared.call_data.CallData.{CallData}
use Rattle.avm_block.specs.declared.block_calls.CallsFault.{CallsFault}
use Rattle.avm_block.specs.declared.block_calls.CallsFault.TheVariants.{Profile, TooMany}
use Rattle.avm_block.specs.AcceptedCalls.{first_beyond}
use Rattle.avm_block.specs.Blocks.{most_calls}

-- the first of the tests that fails
abbrev pub calls_fault : Header → List CallData → Option CallsFault
calls_fault header calls = if nat_lt most_calls (length calls) then Some TooMany else option_map Profile (first_beyond header.profile 1 calls)

-- It is this fault, or that memory ran out where there is none.
abbrev pub IsCallsRefusal : Header → List CallData → Failure CallsFault → Type 0
IsCallsRefusal header calls failure.Memory = calls_fault header calls ≡ None
IsCallsRefusal header calls (failure.Fault f) = calls_fault header calls ≡ Some f

abbrev pub calls_fault_number : CallsFault → ℕ
calls_fault_number TooMany = 1
calls_fault_number (Profile number) = 2

abbrev pub calls_fault_name : CallsFault → List ℕ
calls_fault_name TooMany = codes "TooMany"
calls_fault_name (Profile number) = codes "Profile"
