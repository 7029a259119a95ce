-- Bytes from groups of five bits.
use Rattle.std.proofs.Common.{◌≡◌, ℕ, ◌<◌, ◌≤◌, List, [], ◌∷◌, ◌++◌, length, drop, append_assoc, get_or, arith, rules, All}
use Rattle.std.specs.List.{AllByRecursion}
use Rattle.std.proofs.lemmas.List.Elements.{All-drop}
use Rattle.teal_value.specs.Base32.{bytes_of_digits}

pub small_behind : (n : ℕ) (rest tail : List ℕ) → tail ≡ drop n rest → All (λ g. g < 32) rest → All (λ g. g < 32) tail
small_behind n rest tail e small = rw e (All-drop (λ g. g < 32) n rest small)

-- the bytes of the eight groups in front go from the rest to the bytes that are written
pub goes_on : (out now eight rest tail all : List ℕ) → 8 ≤ length rest → tail ≡ drop 8 rest
    → eight ≡ bytes_of_digits (get_or rest 0 0 ∷ get_or rest 1 0 ∷ get_or rest 2 0 ∷ get_or rest 3 0 ∷ get_or rest 4 0 ∷ get_or rest 5 0 ∷ get_or rest 6 0 ∷ get_or rest 7 0 ∷ [])
    → now ≡ out ++ eight → out ++ bytes_of_digits rest ≡ all → now ++ bytes_of_digits tail ≡ all
unfolding bytes_of_digits
goes_on out now eight [] tail all long t is n so_far = absurd (omega arith)
goes_on out now eight (a ∷ []) tail all long t is n so_far = absurd (omega arith)
goes_on out now eight (a ∷ b ∷ []) tail all long t is n so_far = absurd (omega arith)
goes_on out now eight (a ∷ b ∷ c ∷ []) tail all long t is n so_far = absurd (omega arith)
goes_on out now eight (a ∷ b ∷ c ∷ d ∷ []) tail all long t is n so_far = absurd (omega arith)
goes_on out now eight (a ∷ b ∷ c ∷ d ∷ e ∷ []) tail all long t is n so_far = absurd (omega arith)
goes_on out now eight (a ∷ b ∷ c ∷ d ∷ e ∷ f ∷ []) tail all long t is n so_far = absurd (omega arith)
goes_on out now eight (a ∷ b ∷ c ∷ d ∷ e ∷ f ∷ g ∷ []) tail all long t is n so_far = absurd (omega arith)
goes_on out now eight (a ∷ b ∷ c ∷ d ∷ e ∷ f ∷ g ∷ h ∷ rest) tail all long t is n so_far = rw (n, is, t, append_assoc) so_far

-- groups below 32 make bytes below 256
pub bytes_each : (gs : List ℕ) → AllByRecursion (λ g. g < 32) gs → AllByRecursion (λ b. b < 256) (bytes_of_digits gs)
unfolding bytes_of_digits
bytes_each [] h = search rules
bytes_each (p ∷ []) h = search rules
bytes_each (p ∷ q ∷ []) h = (omega arith, search rules)
bytes_each (p ∷ q ∷ r ∷ []) h = search rules
bytes_each (p ∷ q ∷ r ∷ s ∷ []) h = (omega arith, (omega arith, search rules))
bytes_each (p ∷ q ∷ r ∷ s ∷ t ∷ []) h = (omega arith, (omega arith, (omega arith, search rules)))
bytes_each (p ∷ q ∷ r ∷ s ∷ t ∷ u ∷ []) h = search rules
bytes_each (p ∷ q ∷ r ∷ s ∷ t ∷ u ∷ v ∷ []) h = (omega arith, (omega arith, (omega arith, (omega arith, search rules))))
bytes_each (p ∷ q ∷ r ∷ s ∷ t ∷ u ∷ v ∷ w ∷ rest) h = (omega arith, (omega arith, (omega arith, (omega arith, (omega arith, bytes_each rest h.1.1.1.1.1.1.1.1)))))
