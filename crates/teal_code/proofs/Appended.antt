-- Lists that are written item by item, each behind what was written before.
use Rattle.std.proofs.Common.{◌≡◌, ℕ, ◌+◌, ◌<◌, ◌≤◌, List, ◌++◌, length, get_or, drop, ap, sym, ◌∙◌, append_assoc}
use Rattle.std.specs.List.{flat_map}
use Rattle.std.proofs.lemmas.List.{append-nil, drop_all, drop_more}
use Rattle.teal_code.specs.Encoding.{Continues}

-- once the front is written, what is left is the whole list
pub at_first : (before front back now : List ℕ) → now ≡ before ++ front → now ++ back ≡ before ++ (front ++ back)
at_first before front back now appended = ap (λ xs. xs ++ back) appended ∙ append_assoc before front back

-- an item that is written is no longer among those that are left
pub one_more : {A : Type 0} (encoding : A → List ℕ) (xs : List A) (i : ℕ) (x : A) (before now all : List ℕ) → i < length xs → x ≡ get_or xs i x → before ++ flat_map encoding (drop i xs) ≡ all → now ≡ before ++ encoding x → now ++ flat_map encoding (drop (i + 1) xs) ≡ all
one_more encoding xs i x before now all within is so_far appended =
    let left = flat_map encoding (drop (i + 1) xs) in
    at_first before (encoding x) left now appended ∙ ap (λ y. before ++ (encoding y ++ left)) is ∙ ap (λ ys. before ++ flat_map encoding ys) (sym (drop_more xs i x within)) ∙ so_far

-- once no item is left all is written
pub none_left : {A : Type 0} (encoding : A → List ℕ) (xs : List A) (i : ℕ) (now all : List ℕ) → length xs ≤ i → now ++ flat_map encoding (drop i xs) ≡ all → now ≡ all
none_left encoding xs i now all past so_far =
    sym (append-nil now) ∙ ap (λ ys. now ++ flat_map encoding ys) (sym (drop_all i xs past)) ∙ so_far

-- what continues a list that continues another
pub goes_on : (old before now : List ℕ) → Continues old before → Continues before now → Continues old now
goes_on old before now first second =
    (first.0 ++ second.0, second.1 ∙ ap (λ xs. xs ++ second.0) first.1 ∙ append_assoc old first.0 second.0)
