-- Whether two values are the same.
use Rattle.std.specs.Prelude.{ℕ, ◌==◌, Bool, false, nat_eq, List}
use Rattle.std.specs.Cmp.Lexicographic.{pointwise}
use Rattle.teal_value.specs.declared.value.Value.{Value}
use Rattle.teal_value.specs.declared.value.Value.TheVariants.{Uint, Bytes}

abbrev pub are_same_bytes : List ℕ → List ℕ → Bool
are_same_bytes = pointwise nat_eq

abbrev pub is_same : Value → Value → Bool
is_same (Uint a) (Uint b) = a == b
is_same (Bytes a) (Bytes b) = are_same_bytes a b
is_same _ _ = false
