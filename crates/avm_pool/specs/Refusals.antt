-- Why nothing is proposed.
use Rattle.std.specs.Prelude.{◌≡◌, ℕ, ◌<◌, ◌≤◌, ◌⊎◌, List, [], ◌∷◌, length, None, Some}
use Rattle.teal_value.specs.declared.failure.Failure.{Failure}
use Rattle.teal_value.specs.declared.failure.Failure.TheVariants as failure
use Rattle.teal_table.specs.declared.opcode.Opcode.{Opcode}
use Rattle.avm_ledger.specs.declared.header.Header.{Header}
use Rattle.avm_items.specs.declared.call_data.CallData.{CallData}
use Rattle.avm_ops.specs.OpSets.{IsFull, IsLeastMissing, Slots}
use Rattle.avm_block.specs.AcceptedCalls.{first_beyond}
use Rattle.avm_pool.specs.declared.pool_fault.PoolFault.{PoolFault}
use Rattle.avm_pool.specs.declared.pool_fault.PoolFault.TheVariants as fault
use Rattle.avm_block.specs.Blocks.{most_calls}

-- a set of objects for each of 1 to 8 workers, and no more calls than a block has entries
pub record HasWorkers {O : Type 0} (sets : List (Slots O)) (calls : List CallData) : Type 0 where
  pub some : 0 < length sets
  pub few : length sets ≤ 8
  pub calls_few : length calls ≤ most_calls

-- each set has an object of every opcode, and so has the caller's own, which comes last
abbrev pub AreFull : {O : Type 0} → (O → Opcode) → List (Slots O) → Slots O → Type 0
AreFull opcode [] own = IsFull opcode own
AreFull opcode (set ∷ sets) own = IsFull opcode set × AreFull opcode sets own

-- this is the least code of an opcode that the first set lacks which lacks one
abbrev pub IsFirstMissing : {O : Type 0} → (O → Opcode) → List (Slots O) → Slots O → ℕ → Type 0
IsFirstMissing opcode [] own code = IsLeastMissing opcode own code
IsFirstMissing opcode (set ∷ sets) own code = IsLeastMissing opcode set code ⊎ (IsFull opcode set × IsFirstMissing opcode sets own code)

-- no test fails
pub record MayPropose {O : Type 0} (opcode : O → Opcode) (sets : List (Slots O)) (own : Slots O) (header : Header) (calls : List CallData) : Type 0 where
  pub workers : HasWorkers sets calls
  pub full : AreFull opcode sets own
  pub within : first_beyond header.profile 1 calls ≡ None

-- the first of the tests that fails
abbrev pub IsPoolTestRefusal : {O : Type 0} → (O → Opcode) → List (Slots O) → Slots O → Header → List CallData → PoolFault → Type 0
IsPoolTestRefusal opcode sets own header calls fault.Workers = HasWorkers sets calls → ⊥
IsPoolTestRefusal opcode sets own header calls (fault.OpMissing code) = HasWorkers sets calls × IsFirstMissing opcode sets own code
IsPoolTestRefusal opcode sets own header calls (fault.Profile number) = HasWorkers sets calls × AreFull opcode sets own × (first_beyond header.profile 1 calls ≡ Some number)
IsPoolTestRefusal opcode sets own header calls _ = ⊥

-- what the threads or the memory were wanting
abbrev pub IsWant : Failure PoolFault → Type 0
IsWant failure.Memory = Unit {0}
IsWant (failure.Fault fault.Spawn) = Unit {0}
IsWant (failure.Fault fault.ClockEnd) = Unit {0}
IsWant _ = ⊥

-- A test fails, and it is the first; or none does, and threads, timestamps or memory were wanting.
abbrev pub IsRefusal : {O : Type 0} → (O → Opcode) → List (Slots O) → Slots O → Header → List CallData → Failure PoolFault → Type 0
IsRefusal opcode sets own header calls failure.Memory = MayPropose opcode sets own header calls
IsRefusal opcode sets own header calls (failure.Fault fault.Spawn) = MayPropose opcode sets own header calls
IsRefusal opcode sets own header calls (failure.Fault fault.ClockEnd) = MayPropose opcode sets own header calls
IsRefusal opcode sets own header calls (failure.Fault f) = IsPoolTestRefusal opcode sets own header calls f
