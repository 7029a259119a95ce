-- Words that are gathered, unless one of them was refused its memory.
use Rattle.std.proofs.Common.{◌≡◌, List, [], ◌∷◌, map, Result, Ok, Err, IfOk, String, string_bytes, refl, ap, ◌∙◌, subst}
use Rattle.teal_dis.specs.Listing.{Word}
use Rattle.teal_dis.specs.Shown.{texts}

-- the words that are there have the texts that are meant
abbrev pub AreWords : {A E : Type 0} → List (Result (String A) E) → List Word → Type 0
AreWords [] [] = Unit {0}
AreWords (r ∷ rs) (x ∷ xs) = IfOk r (λ w. string_bytes w ≡ x) × AreWords rs xs
AreWords _ _ = ⊥

texts_of : {A : Type 0} (E : Type 0) (words : List (String A)) (meant : List Word) → AreWords {A = A} {E = E} (map Ok words) meant → texts words ≡ meant
texts_of E [] [] are = refl
texts_of E [] (x ∷ xs) are = absurd are
texts_of E (w ∷ ws) [] are = absurd are
texts_of E (w ∷ ws) (x ∷ xs) are = ap (λ t. t ∷ texts ws) are.0 ∙ ap (λ ts. x ∷ ts) (texts_of E ws xs are.1)

pub gathers : {A V E F : Type 0} (items : V → List (String A)) (rs : List (Result (String A) E)) (meant : List Word) (result : Result V F) → AreWords rs meant
    → IfOk result (λ v. rs ≡ map Ok (items v)) → IfOk result (λ v. texts (items v) ≡ meant)
gathers items rs meant (Ok v) are is = texts_of _ (items v) meant (subst (λ l. AreWords l meant) is are)
gathers items rs meant (Err e) are is = tt
