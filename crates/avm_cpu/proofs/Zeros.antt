-- Lists whose values are 0 from some place on.
use Rattle.std.proofs.Common.{◌≡◌, ℕ, suc, zero, ◌+◌, ◌-◌, ◌<◌, ◌≤◌, List, [], ◌∷◌, ◌++◌, length, take, drop, get_or, set, refl, ap, sym, ◌∙◌, arith}
use Rattle.std.specs.Prelude.{replicate}
use Rattle.std.proofs.lemmas.List.{drop-drop, drop-replicate, drop-set-lt, replicate-append-replicate, take-append-drop}

-- a list whose items are the same
pub all_same : {A : Type 0} (xs : List A) (n : ℕ) (z : A) → length xs ≡ n → ((i : ℕ) (d : A) → i < n → get_or xs i d ≡ z) → xs ≡ replicate n z
all_same [] zero z long same = refl
all_same [] (suc n) z long same = absurd (omega arith)
all_same (x ∷ xs) zero z long same = absurd (omega arith)
all_same (x ∷ xs) (suc n) z long same =
    let first : x ≡ z = same 0 z (omega arith) in
    let rest : xs ≡ replicate n z = all_same xs n z (omega arith) (λ i d h. same (suc i) d (omega arith)) in
    λ k. first k ∷ rest k

-- from the place u on zeros, and a value written: from each place behind both on zeros
pub behind : {A : Type 0} (xs : List A) (i u w n : ℕ) (v z : A) → drop u xs ≡ replicate (n - u) z → u ≤ w → i < w → drop w (set xs i v) ≡ replicate (n - w) z
behind xs i u w n v z zeros le lt =
    let on : w ≡ u + (w - u) = omega arith in
    let left : n - u - (w - u) ≡ n - w = omega arith in
    drop-set-lt w xs i v lt
    ∙ ap (λ k. drop k xs) on
    ∙ sym (drop-drop (w - u) u xs)
    ∙ ap (drop (w - u)) zeros
    ∙ drop-replicate (w - u) (n - u) z
    ∙ ap (λ k. replicate k z) left

-- zeros up to a place and from it on
pub all_zeros : {A : Type 0} (xs : List A) (u n : ℕ) (z : A) → u ≤ n → take u xs ≡ replicate u z → drop u xs ≡ replicate (n - u) z → xs ≡ replicate n z
all_zeros xs u n z le front back =
    let whole : u + (n - u) ≡ n = omega arith in
    sym (take-append-drop u xs) ∙ (λ k. front k ++ back k) ∙ replicate-append-replicate u (n - u) z ∙ ap (λ k. replicate k z) whole
