-- Bytes appended part by part.
use Rattle.std.proofs.Common.{◌≡◌, ℕ, List, ◌++◌, ap, ◌∙◌, append_assoc}

-- a part that is appended stands behind the parts appended before
pub more : (old parts part before now : List ℕ) → before ≡ old ++ parts → now ≡ before ++ part → now ≡ old ++ (parts ++ part)
more old parts part before now so_far appended = appended ∙ ap (λ xs. xs ++ part) so_far ∙ append_assoc old parts part

-- a part that was given otherwise
pub more_as : {A : Type 0} (encoding : A → List ℕ) (x y : A) (old parts before now : List ℕ) → before ≡ old ++ parts → now ≡ before ++ encoding x → x ≡ y → now ≡ old ++ (parts ++ encoding y)
more_as encoding x y old parts before now so_far appended same = more old parts (encoding y) before now so_far (appended ∙ ap (λ z. before ++ encoding z) same)
