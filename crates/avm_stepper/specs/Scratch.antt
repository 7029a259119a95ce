-- The places of a scratch space that a view shows.
use Rattle.std.specs.Prelude.{ℕ, zero, suc, Bool, true, false, if◌then◌else◌, List, [], ◌∷◌, filter, map}
use Rattle.std.specs.List.{enumerate_from}
use Rattle.teal_value.specs.declared.value.Value.{Value}
use Rattle.teal_value.specs.declared.value.Value.TheVariants.{Uint, Bytes}
use Rattle.avm_stepper.specs.declared.view.ScratchPlace.{ScratchPlace}

abbrev pub is_set : ℕ × Value → Bool
is_set (index, Uint zero) = false
is_set (index, Uint (suc n)) = true
is_set (index, Bytes s) = true

abbrev pub is_zero_value : Value → Bool
is_zero_value (Uint zero) = true
is_zero_value (Uint (suc n)) = false
is_zero_value (Bytes s) = false

abbrev pub place_if_set : ℕ → Value → List (ℕ × Value)
place_if_set index v = if is_zero_value v then [] else (index, v) ∷ []

-- those from an index on
abbrev pub set_places : ℕ → List Value → List (ℕ × Value)
set_places index values = filter is_set (enumerate_from index values)

abbrev pub places_seen : List ScratchPlace → List (ℕ × Value)
places_seen = map (λ (p : ScratchPlace). (p.index, p.value))
