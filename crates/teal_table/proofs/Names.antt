-- An opcode is found by its name among those whose names are as long.
use Rattle.std.proofs.Common.{◌≡◌, ℕ, Bool, true, false, cond, List, [], ◌∷◌, length, Some, refl, sym, ap, ◌∙◌}
use Rattle.std.specs.Prelude.{find, ◌==◌}
use Rattle.std.specs.List.{filter}
use Rattle.std.specs.Str.{bytes_eq}
use Rattle.std.proofs.lemmas.Bool.{eq-eqb}
use Rattle.std.proofs.lemmas.Slice.Eq.{bytes_eq-Decides}
use Rattle.teal_table.specs.declared.opcode.Opcode.{Opcode}
use Rattle.teal_table.specs.Table.{name_of}

-- what is looked for is among those that pass a test that it passes
pub find-filter : {A : Type 0} (p q : A → Bool) → ((x : A) → p x ≡ true → q x ≡ true) → (xs : List A) → find p (filter q xs) ≡ find p xs
find-filter p q passes [] = refl
find-filter p q passes (x ∷ xs) = at_tests (p x) (q x) refl refl (find-filter p q passes xs)
  where
    at_tests : (a b : Bool) → p x ≡ a → q x ≡ b → find p (filter q xs) ≡ find p xs → find p (cond b (x ∷ filter q xs) (filter q xs)) ≡ cond a (Some x) (find p xs)
    at_tests true true is kept later = rw is refl
    at_tests true false is gone later = let clash : false ≡ true = sym gone ∙ passes x is in absurd cc
    at_tests false true not kept later = rw not later
    at_tests false false not gone later = later

pub same_length : (name : List ℕ) (o : Opcode) → bytes_eq (name_of o) name ≡ true → (length (name_of o) == length name) ≡ true
same_length name o e = eq-eqb (length (name_of o)) (length name) (ap length ((bytes_eq-Decides (name_of o) name).0 e))
