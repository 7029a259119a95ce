-- The number of the instruction at a place is one of the program's.
use Rattle.std.proofs.Common.{◌≡◌, ℕ, suc, ◌<◌, ◌≤◌, true, false, List, [], ◌∷◌, length, Option, Some, None, refl, arith}
use Rattle.std.specs.Prelude.{◌==◌, option_map}
use Rattle.std.proofs.lemmas.List.{length-map}
use Rattle.teal_check.specs.declared.program.PlacedInstr.{PlacedInstr}
use Rattle.teal_check.specs.WellFormed.{first_index, places}
use Rattle.json_views.specs.MachineStates.{number_at, number_or}

index_more : (o : Option ℕ) (n end : ℕ) → ((k : ℕ) → o ≡ Some k → k < end) → option_map suc o ≡ Some n → n < suc end
index_more (Some k) n end below e = let is : suc k ≡ n = cc in omega (arith, below k refl)
index_more None n end below e = absurd cc

told : {m k : ℕ} → Some m ≡ Some k → m ≡ k
told e = cc

index_within : (x : ℕ) (xs : List ℕ) (n : ℕ) → first_index x xs ≡ Some n → n < length xs
index_within x [] n e = absurd cc
index_within x (y ∷ ys) n e = elim (x == y) as (λ b. (x == y) ≡ b → n < length (y ∷ ys)) [
  | true ↦ λ same. let first : 0 ≡ n = told (rw same at e) in omega (arith, first)
  | false ↦ λ other. index_more (first_index x ys) n (length ys) (λ k at. index_within x ys k at) (rw other at e)
] refl

number_within : (placed : List PlacedInstr) (place n : ℕ) → first_index place (places placed) ≡ Some n → n < length placed
number_within placed place n e = omega (arith, index_within place (places placed) n e, length-map {B = ℕ} placed)

number_or_within : (o : Option ℕ) (end : ℕ) → ((n : ℕ) → o ≡ Some n → n < end) → number_or end o ≤ end
number_or_within None end below = omega arith
number_or_within (Some n) end below = omega (arith, below n refl)

-- the number of an instruction is at most the number of instructions of the program
pub number_at_within : (placed : List PlacedInstr) (place : ℕ) → number_at placed place ≤ length placed
number_at_within placed place = number_or_within (first_index place (places placed)) (length placed) (λ n. number_within placed place n)
