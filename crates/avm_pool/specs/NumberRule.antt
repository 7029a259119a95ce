-- The rule of a queue of numbers: what is queued and what the passes have drawn are the numbers put, each once.
use Rattle.std.specs.Prelude.{◌≡◌, ℕ, Bool, true, List, [], ◌∷◌, ◌++◌, length, zero, suc}
use Rattle.std.specs.List.{flat_map}
use Rattle.std.specs.List.Sorted.{IsPermutation}
use mathlib.Core.Option.{some}
use lib.ListN.{get_elem?}
use Rattle.avm_pool.specs.declared.call_numbers.PassState.{PassState}

abbrev pub hand : Bool → ℕ → List ℕ → PassState
hand puts put drawn = record { puts = puts; put = put; drawn = drawn }

-- the numbers 1 to n
abbrev pub numbers_to : ℕ → List ℕ
numbers_to zero = []
numbers_to (suc n) = numbers_to n ++ suc n ∷ []

-- what all passes have drawn
abbrev pub all_drawn : List PassState → List ℕ
all_drawn hands = flat_map (λ v. v.drawn) hands

-- one pass at most may put, and it has put so many
abbrev pub OnePuts : ℕ → ℕ → List PassState → Type 0
OnePuts pass put hands = (i : ℕ) (v : PassState) → get_elem? hands i ≡ some v → v.puts ≡ true → (i ≡ pass) × (v.put ≡ put)

-- what is queued and what the passes have drawn are, in some order, the numbers put
abbrev pub Numbered : List ℕ → List PassState → Type 0
Numbered queued hands = (pass : ℕ) × (put : ℕ) × OnePuts pass put hands × IsPermutation (queued ++ all_drawn hands) (numbers_to put)

-- the rule allows that a pass knows v while these are queued
abbrev pub Allows : PassState → List ℕ → Type 0
Allows v queued = (pass : ℕ) × (hands : List PassState) × Numbered queued hands × (get_elem? hands pass ≡ some v)

-- The rule allows that n numbers are queued while a pass knows v: some passes go with that. Which passes there are, it does not say.
abbrev pub AllowsCount : ℕ → PassState → Type 0
AllowsCount n v = (queued : List ℕ) × (length queued ≡ n) × Allows v queued
