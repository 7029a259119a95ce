-- The places of a scratch space, one by one.
use Rattle.std.proofs.Common.{◌≡◌, ℕ, zero, suc, ◌+◌, List, [], ◌∷◌, ◌++◌, drop, Some, refl, sym, ap, ◌∙◌, append_assoc, add-one}
use Rattle.std.specs.Prelude.{slice_get}
use Rattle.teal_value.specs.declared.value.Value.{Value}
use Rattle.teal_value.specs.declared.value.Value.TheVariants.{Uint, Bytes}
use Rattle.avm_stepper.specs.Scratch.{place_if_set, set_places}

drop_there : (values : List Value) (i : ℕ) (v : Value) → slice_get values i ≡ Some v → drop i values ≡ v ∷ drop (suc i) values
drop_there [] i v e = absurd cc
drop_there (x ∷ xs) zero v e = let same : x ≡ v = cc in ap (λ y. y ∷ xs) same
drop_there (x ∷ xs) (suc i) v e = drop_there xs i v e

one_place : (i : ℕ) (v : Value) (values : List Value) → set_places i (v ∷ values) ≡ place_if_set i v ++ set_places (i + 1) values
one_place i (Uint zero) values = refl
one_place i (Uint (suc n)) values = refl
one_place i (Bytes s) values = refl

-- with one more value looked at, the places found and those to come are all as before
pub places_more : (values : List Value) (i : ℕ) (v : Value) (before now all : List (ℕ × Value)) → slice_get values i ≡ Some v → before ++ set_places i (drop i values) ≡ all → now ≡ before ++ place_if_set i v → now ++ set_places (i + 1) (drop (i + 1) values) ≡ all
places_more values i v before now all there so_far is =
    let rest = drop (i + 1) values in
    let here : drop i values ≡ v ∷ rest = drop_there values i v there ∙ ap (λ n. v ∷ drop n values) (sym (add-one i)) in
    ap (λ xs. xs ++ set_places (i + 1) rest) is
    ∙ append_assoc before (place_if_set i v) (set_places (i + 1) rest)
    ∙ sym (ap (λ xs. before ++ xs) (ap (set_places i) here ∙ one_place i v rest))
    ∙ so_far
