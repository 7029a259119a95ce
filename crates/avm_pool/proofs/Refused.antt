-- What follows where no test fails.
use Rattle.std.proofs.Common.{◌≡◌, List, [], ◌∷◌, length, false, nat_lt, ap, ◌∙◌, subst, arith}
use Rattle.std.specs.Prelude.{Some, None, Result, Ok, Err, IfErr, OnOk, if◌then◌else◌, option_map}
use Rattle.std.proofs.lemmas.Bool.Decides.{nat_tests}
use Rattle.teal_value.specs.declared.failure.Failure.{Failure}
use Rattle.teal_value.specs.declared.failure.Failure.TheVariants as failure
use Rattle.teal_table.specs.declared.opcode.Opcode.{Opcode}
use Rattle.avm_ledger.specs.declared.header.Header.{Header}
use Rattle.avm_items.specs.declared.call_data.CallData.{CallData}
use Rattle.avm_ops.specs.OpSets.{IsFull, Slots}
use Rattle.avm_block.specs.Blocks.{most_calls}
use Rattle.avm_block.specs.AcceptedCalls.{first_beyond}
use Rattle.avm_block.specs.declared.block_calls.CallsFault.TheVariants.{Profile, TooMany}
use Rattle.avm_block.specs.CallsFaults.{calls_fault}
use Rattle.avm_pool.specs.declared.pool_fault.PoolFault.{PoolFault}
use Rattle.avm_pool.specs.declared.pool_fault.PoolFault.TheVariants as fault
use Rattle.avm_pool.specs.Refusals.{AreFull, IsRefusal, IsPoolTestRefusal, IsWant, MayPropose}

module _ {O : Type 0} (opcode : O → Opcode) where
  own_is_full_in : (sets : List (Slots O)) (own : Slots O) → AreFull opcode sets own → IsFull opcode own
  own_is_full_in [] own h = h
  own_is_full_in (set ∷ sets) own h = own_is_full_in sets own h.1

  -- where no test fails, the caller's own set has an object of every opcode
  pub own_is_full : (sets : List (Slots O)) (own : Slots O) (header : Header) (calls : List CallData) → MayPropose opcode sets own header calls → IsFull opcode own
  own_is_full sets own header calls may = own_is_full_in sets own may.full

  wants_are_refusals : (sets : List (Slots O)) (own : Slots O) (header : Header) (calls : List CallData) → MayPropose opcode sets own header calls → (e : Failure PoolFault) → IsWant e → IsRefusal opcode sets own header calls e
  wants_are_refusals sets own header calls may failure.Memory want = may
  wants_are_refusals sets own header calls may (failure.Fault fault.Spawn) want = may
  wants_are_refusals sets own header calls may (failure.Fault fault.ClockEnd) want = may
  wants_are_refusals sets own header calls may (failure.Fault fault.Workers) want = absurd want
  wants_are_refusals sets own header calls may (failure.Fault (fault.OpMissing code)) want = absurd want
  wants_are_refusals sets own header calls may (failure.Fault (fault.Profile number)) want = absurd want

  -- where no test fails, a journal of the calls may be opened
  pub journal_opens : (sets : List (Slots O)) (own : Slots O) (header : Header) (calls : List CallData) → MayPropose opcode sets own header calls → calls_fault header calls ≡ None
  journal_opens sets own header calls may =
      let few : nat_lt most_calls (length calls) ≡ false = let l = may.workers.calls_few in grind (arith, nat_tests) in
      ap (λ b. if b then Some TooMany else option_map Profile (first_beyond header.profile 1 calls)) few ∙ ap (option_map Profile) may.within

  tests_are_refusals : (sets : List (Slots O)) (own : Slots O) (header : Header) (calls : List CallData) (f : PoolFault) → IsPoolTestRefusal opcode sets own header calls f → IsRefusal opcode sets own header calls (failure.Fault f)
  tests_are_refusals sets own header calls fault.Workers h = h
  tests_are_refusals sets own header calls (fault.OpMissing code) h = h
  tests_are_refusals sets own header calls (fault.Profile number) h = h
  tests_are_refusals sets own header calls fault.Spawn h = absurd h
  tests_are_refusals sets own header calls fault.ClockEnd h = absurd h

  -- the same for lists that are equal
  pub refused_for : (sets sets' : List (Slots O)) (own : Slots O) (header : Header) (calls calls' : List CallData) → sets' ≡ sets → calls' ≡ calls → (f : PoolFault) → IsPoolTestRefusal opcode sets' own header calls' f → IsRefusal opcode sets own header calls (failure.Fault f)
  refused_for sets sets' own header calls calls' s c f h =
      let P : List (Slots O) → Type 0 = λ x. IsRefusal opcode x own header calls (failure.Fault f) in
      let Q : List CallData → Type 0 = λ y. IsRefusal opcode sets' own header y (failure.Fault f) in
      subst P s (subst Q c (tests_are_refusals sets' own header calls' f h))

  pub may_for : (sets sets' : List (Slots O)) (own : Slots O) (header : Header) (calls calls' : List CallData) → sets' ≡ sets → calls' ≡ calls → MayPropose opcode sets' own header calls' → MayPropose opcode sets own header calls
  may_for sets sets' own header calls calls' s c h =
      let P : List (Slots O) → Type 0 = λ x. MayPropose opcode x own header calls in
      let Q : List CallData → Type 0 = λ y. MayPropose opcode sets' own header y in
      subst P s (subst Q c h)

  pub may_on_ok : {A : Type 0} (sets : List (Slots O)) (own : Slots O) (header : Header) (calls : List CallData) (r : Result A (Failure PoolFault)) → MayPropose opcode sets own header calls → OnOk r (MayPropose opcode sets own header calls)
  may_on_ok sets own header calls (Ok x) may = may
  may_on_ok sets own header calls (Err e) may = tt

  -- where no test fails, a want of threads, timestamps or memory is a refusal
  pub wants_on_err : {A : Type 0} (sets : List (Slots O)) (own : Slots O) (header : Header) (calls : List CallData) (r : Result A (Failure PoolFault)) → MayPropose opcode sets own header calls → IfErr r IsWant → IfErr r (IsRefusal opcode sets own header calls)
  wants_on_err sets own header calls (Ok x) may want = tt
  wants_on_err sets own header calls (Err e) may want = wants_are_refusals sets own header calls may e want
