-- What is answered to calls of which a block is made.
use Rattle.std.proofs.Common.{◌≡◌, ◌∙◌, true, ℕ, ◌+◌, ◌<◌, List, [], ◌∷◌, length, Some, None, refl, sym, ap, inl, inr}
use Rattle.std.proofs.lemmas.Bool.{cases_lt}
use Rattle.teal_value.specs.declared.failure.Failure.TheVariants as failure
use Rattle.teal_table.specs.declared.opcode.Opcode.{Opcode}
use Rattle.avm_ledger.specs.declared.header.Header.{Header}
use Rattle.avm_ledger.specs.declared.header.Profile.{Profile}
use Rattle.avm_ledger.specs.declared.header.Profile.TheVariants as profile
use Rattle.avm_items.specs.declared.call_data.CallData.{CallData}
use Rattle.avm_call.specs.CallRules.{needed_profile}
use Rattle.avm_block.specs.AcceptedCalls.{first_beyond, fits_in}
use Rattle.avm_ops.specs.OpSets.{IsFull, IsLeastMissing, Slots}
use Rattle.avm_pool.specs.declared.pool_fault.PoolFault.{PoolFault}
use Rattle.avm_pool.specs.declared.pool_fault.PoolFault.TheVariants as fault
use Rattle.avm_pool.specs.Refusals.{AreFull, HasWorkers, IsFirstMissing, IsRefusal}
use Rattle.avm_node.specs.ProposeCommands.{IsPoolFault}
use Rattle.avm_node.specs.WorkerSets.{AreWorkerSets}
use Rattle.avm_block.specs.Blocks.{most_calls}

within_three : (needed : Profile) → fits_in needed profile.Three ≡ true
within_three profile.Two = refl
within_three profile.Three = refl

none_beyond : (n : ℕ) (calls : List CallData) → first_beyond profile.Three n calls ≡ None
none_beyond n [] = refl
none_beyond n (call ∷ calls) = rw (within_three (needed_profile call)) (none_beyond (n + 1) calls)

module _ {O : Type 0} (opcode : O → Opcode) where
  lacks_none : (slots : Slots O) (code : ℕ) → IsFull opcode slots → IsLeastMissing opcode slots code → ⊥
  lacks_none slots code full least = let (o, is, lacks) = least.missing in lacks (full o)

  none_lacks : (sets : List (Slots O)) (own : Slots O) (code : ℕ) → AreFull opcode sets own → IsFirstMissing opcode sets own code → ⊥
  none_lacks [] own code full first = lacks_none own code full first
  none_lacks (set ∷ sets) own code full (inl least) = lacks_none set code full.0 least
  none_lacks (set ∷ sets) own code full (inr more) = none_lacks sets own code full.1 more.1

  too_many : (sets : List (Slots O)) (own : Slots O) (calls : List CallData) → AreWorkerSets opcode sets own → (HasWorkers sets calls → ⊥) → most_calls < length calls
  too_many sets own calls are refused =
      elim (cases_lt most_calls (length calls)) [
        | inl more ↦ more
        | inr few ↦ absurd (refused (record { some = are.some; few = are.few; calls_few = few }))
      ]

  -- full sets for one to eight workers, and a header of profile 3, leave these refusals
  pub pool_faults : (sets : List (Slots O)) (own : Slots O) (header : Header) (calls : List CallData) → AreWorkerSets opcode sets own → header.profile ≡ profile.Three
      → (f : PoolFault) → IsRefusal opcode sets own header calls (failure.Fault f) → IsPoolFault calls f
  pool_faults sets own header calls are three fault.Workers h = too_many sets own calls are h
  pool_faults sets own header calls are three (fault.OpMissing code) h = absurd (none_lacks sets own code are.full h.1)
  pool_faults sets own header calls are three (fault.Profile number) h =
      let none : first_beyond header.profile 1 calls ≡ None = ap (λ p. first_beyond p 1 calls) three ∙ none_beyond 1 calls in
      let some : first_beyond header.profile 1 calls ≡ Some number = h.2 in
      let both : None ≡ Some number = sym none ∙ some in
      absurd cc
  pool_faults sets own header calls are three fault.Spawn h = h.workers.calls_few
  pool_faults sets own header calls are three fault.ClockEnd h = h.workers.calls_few
