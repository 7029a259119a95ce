-- The bytes that were read.
use Rattle.std.proofs.Common.{◌≡◌, ◌∙◌, ap, ◌+◌, ℕ, List, Option, Some, None, IfSome, option_map, take}
use Rattle.avm_input.specs.Answers.{IsInput, input_limit}

pub IsInput-taken : (limit : ℕ) (had : Option (List ℕ)) (input : List ℕ) → limit ≡ input_limit + 1
    → IfSome (option_map (take limit) had) (λ xs. input ≡ xs) → IsInput had input
IsInput-taken limit None input is h = h
IsInput-taken limit (Some bytes) input is h = h ∙ ap (λ n. take n bytes) is
