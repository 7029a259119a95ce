-- Lists of bytes, each below 256.
use Rattle.std.proofs.Common.{ℕ, zero, suc, ◌<◌, List, [], ◌∷◌, ◌++◌, get_or, arith}
use Rattle.std.specs.List.{All}
use Rattle.std.proofs.lemmas.List.Elements.{All-head, All-tail}

abbrev pub AllBytes : List ℕ → Type 0
AllBytes [] = Unit {0}
AllBytes (b ∷ bytes) = (b < 256) × AllBytes bytes

pub all_bytes : (bytes : List ℕ) → All (λ b. b < 256) bytes → AllBytes bytes
all_bytes [] all = tt
all_bytes (b ∷ bytes) all = (All-head (λ c. c < 256) b bytes all, all_bytes bytes (All-tail (λ c. c < 256) b bytes all))

pub byte_below : (bytes : List ℕ) → AllBytes bytes → (i : ℕ) → get_or bytes i 0 < 256
byte_below [] all i = omega arith
byte_below (b ∷ bytes) all zero = all.0
byte_below (b ∷ bytes) all (suc i) = byte_below bytes all.1 i

pub front_bytes : (xs ys : List ℕ) → AllBytes (xs ++ ys) → AllBytes xs
front_bytes [] ys all = tt
front_bytes (x ∷ xs) ys all = (all.0, front_bytes xs ys all.1)

pub rest_bytes : (xs ys : List ℕ) → AllBytes (xs ++ ys) → AllBytes ys
rest_bytes [] ys all = all
rest_bytes (x ∷ xs) ys all = rest_bytes xs ys all.1
