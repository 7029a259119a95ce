-- The first of some calls that needs a newer profile.
use Rattle.std.proofs.Common.{◌≡◌, ◌∙◌, ap, sym, subst, refl, ℕ, ◌+◌, ◌<◌, ◌≤◌, true, false, List, [], ◌∷◌, length, take, drop, All, None, Some, slice_index_or, arith}
use Rattle.std.proofs.lemmas.List.{drop_all, drop_more}
use Rattle.std.proofs.Math.Seq.{take-length}
use Rattle.avm_ledger.specs.declared.header.Profile.{Profile}
use Rattle.avm_items.specs.declared.call_data.CallData.{CallData}
use Rattle.avm_call.specs.CallRules.{needed_profile}
use Rattle.avm_block.specs.AcceptedCalls.{first_beyond, fits_in}

-- a call that needs a newer profile is the first such call from its own place on
pub beyond_here : (p : Profile) (number i : ℕ) (cs : List CallData) (c : CallData) → i < length cs → c ≡ slice_index_or cs i c → fits_in (needed_profile c) p ≡ false
    → first_beyond p number (drop i cs) ≡ Some number
beyond_here p number i cs c lt is beyond =
    let more : drop i cs ≡ c ∷ drop (i + 1) cs = drop_more cs i c lt ∙ ap (λ x. x ∷ drop (i + 1) cs) (sym is) in
    ap (first_beyond p number) more ∙ rw beyond refl

-- a call that needs no newer profile is passed over
pub within_here : (p : Profile) (number i : ℕ) (cs : List CallData) (c : CallData) → i < length cs → c ≡ slice_index_or cs i c → fits_in (needed_profile c) p ≡ true
    → first_beyond p number (drop i cs) ≡ first_beyond p (number + 1) (drop (i + 1) cs)
within_here p number i cs c lt is within =
    let more : drop i cs ≡ c ∷ drop (i + 1) cs = drop_more cs i c lt ∙ ap (λ x. x ∷ drop (i + 1) cs) (sym is) in
    ap (first_beyond p number) more ∙ rw within refl

-- behind the last call there is none that needs a newer profile
pub none_beyond : (p : Profile) (number i : ℕ) (cs : List CallData) → length cs ≤ i → first_beyond p number (drop i cs) ≡ None
none_beyond p number i cs le = let none : drop i cs ≡ [] = drop_all i cs le in rw none refl

-- what holds of the first elements holds of all, where there are no more
pub all_taken : {A : Type 0} (P : A → Type 0) (xs : List A) (i : ℕ) → length xs ≤ i → i ≤ length xs → All P (take i xs) → All P xs
all_taken P xs i from to all =
    let whole : take i xs ≡ xs = let e : i ≡ length xs = omega (arith, from, to) in ap (λ n. take n xs) e ∙ take-length xs in
    subst (All P) whole all
