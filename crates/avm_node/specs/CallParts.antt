-- Lists that two parts of an input give.
use Rattle.std.specs.Prelude.{List, ◌++◌, Result, Ok}
use Rattle.teal_value.specs.Answer.{◌>>=◌, Gives}
use Rattle.teal_value.specs.declared.failure.Failure.{Failure}

-- what two parts give, one behind the other, or the fault of the first that has one
abbrev pub GiveTogether : {X A F : Type 0} → (X → List A) → Result X (Failure F) → Result X (Failure F) → Result X (Failure F) → Type 0
GiveTogether {X} {A} {F} view first second both =
    (a b : Result (List A) F) → Gives view first a → Gives view second b → Gives view both (a >>= λ xs. b >>= λ ys. Ok (xs ++ ys))
