-- Bytes come back from their numbers of five bits.
use Rattle.std.proofs.Common.{◌≡◌, ℕ, ◌+◌, ◌*◌, ◌/◌, ◌%◌, ◌<◌, ◌≤◌, List, [], ◌∷◌, ◌++◌, length, drop, append_assoc, get_or, refl, ap, arith, rules, suc, All}
use Rattle.std.specs.List.{AllByRecursion}
use Rattle.std.proofs.lemmas.List.Elements.{All-from_recursion}
use Rattle.teal_value.specs.Base32.{groups, bytes_of_digits, IsBytes}

first : (a b : ℕ) → a < 256 → b < 256 → a / 8 * 8 + (a % 8 * 4 + b / 64) / 4 ≡ a
first a b x y = omega arith

first_last : (a : ℕ) → a < 256 → a / 8 * 8 + (a % 8 * 4) / 4 ≡ a
first_last a x = omega arith

second : (a b c : ℕ) → b < 256 → c < 256 → (a % 8 * 4 + b / 64) % 4 * 64 + b / 2 % 32 * 2 + (b % 2 * 16 + c / 16) / 16 ≡ b
second a b c x y = omega arith

second_last : (a b : ℕ) → b < 256 → (a % 8 * 4 + b / 64) % 4 * 64 + b / 2 % 32 * 2 + (b % 2 * 16) / 16 ≡ b
second_last a b x = omega arith

third : (b c d : ℕ) → c < 256 → d < 256 → (b % 2 * 16 + c / 16) % 16 * 16 + (c % 16 * 2 + d / 128) / 2 ≡ c
third b c d x y = omega arith

third_last : (b c : ℕ) → c < 256 → (b % 2 * 16 + c / 16) % 16 * 16 + (c % 16 * 2) / 2 ≡ c
third_last b c x = omega arith

fourth : (c d e : ℕ) → d < 256 → e < 256 → (c % 16 * 2 + d / 128) % 2 * 128 + d / 4 % 32 * 4 + (d % 4 * 8 + e / 32) / 8 ≡ d
fourth c d e x y = omega arith

fourth_last : (c d : ℕ) → d < 256 → (c % 16 * 2 + d / 128) % 2 * 128 + d / 4 % 32 * 4 + (d % 4 * 8) / 8 ≡ d
fourth_last c d x = omega arith

fifth : (d e : ℕ) → e < 256 → (d % 4 * 8 + e / 32) % 8 * 32 + e % 32 ≡ e
fifth d e x = omega arith

-- the groups of bytes make the same bytes again
pub bytes_of-groups : (bytes : List ℕ) → IsBytes bytes → bytes_of_digits (groups bytes) ≡ bytes
unfolding groups bytes_of_digits
bytes_of-groups [] h = refl
bytes_of-groups (a ∷ []) h = rw (first_last a (h 0)) refl
bytes_of-groups (a ∷ b ∷ []) h = rw (first a b (h 0) (h 1), second_last a b (h 1)) refl
bytes_of-groups (a ∷ b ∷ c ∷ []) h = rw (first a b (h 0) (h 1), second a b c (h 1) (h 2), third_last b c (h 2)) refl
bytes_of-groups (a ∷ b ∷ c ∷ d ∷ []) h = rw (first a b (h 0) (h 1), second a b c (h 1) (h 2), third b c d (h 2) (h 3), fourth_last c d (h 3)) refl
bytes_of-groups (a ∷ b ∷ c ∷ d ∷ e ∷ rest) h = rw (first a b (h 0) (h 1), second a b c (h 1) (h 2), third b c d (h 2) (h 3), fourth c d e (h 3) (h 4), fifth d e (h 4)) (ap (λ (r : List ℕ). a ∷ b ∷ c ∷ d ∷ e ∷ r) (bytes_of-groups rest (λ i. h (suc (suc (suc (suc (suc i))))))))

-- the groups of the five bytes in front go from the rest to the groups that are written
pub goes_on : (out now five rest tail all : List ℕ) → 5 ≤ length rest → tail ≡ drop 5 rest
    → five ≡ groups (get_or rest 0 0 ∷ get_or rest 1 0 ∷ get_or rest 2 0 ∷ get_or rest 3 0 ∷ get_or rest 4 0 ∷ [])
    → now ≡ out ++ five → out ++ groups rest ≡ all → now ++ groups tail ≡ all
unfolding groups
goes_on out now five [] tail all long t f n so_far = absurd (omega arith)
goes_on out now five (a ∷ []) tail all long t f n so_far = absurd (omega arith)
goes_on out now five (a ∷ b ∷ []) tail all long t f n so_far = absurd (omega arith)
goes_on out now five (a ∷ b ∷ c ∷ []) tail all long t f n so_far = absurd (omega arith)
goes_on out now five (a ∷ b ∷ c ∷ d ∷ []) tail all long t f n so_far = absurd (omega arith)
goes_on out now five (a ∷ b ∷ c ∷ d ∷ e ∷ rest) tail all long t f n so_far = rw (n, f, t, append_assoc) so_far

-- every group of bytes is a number below 32
pub groups_each : (bytes : List ℕ) → IsBytes bytes → AllByRecursion (λ v. v < 32) (groups bytes)
unfolding groups
groups_each [] h = search rules
groups_each (a ∷ []) h = let x = h 0 in (omega arith, (omega arith, search rules))
groups_each (a ∷ b ∷ []) h = let x = h 0 in let y = h 1 in (omega arith, (omega arith, (omega arith, (omega arith, search rules))))
groups_each (a ∷ b ∷ c ∷ []) h = let x = h 0 in let y = h 1 in let z = h 2 in (omega arith, (omega arith, (omega arith, (omega arith, (omega arith, search rules)))))
groups_each (a ∷ b ∷ c ∷ d ∷ []) h = let x = h 0 in let y = h 1 in let z = h 2 in let u = h 3 in (omega arith, (omega arith, (omega arith, (omega arith, (omega arith, (omega arith, (omega arith, search rules)))))))
groups_each (a ∷ b ∷ c ∷ d ∷ e ∷ rest) h =
    let x = h 0 in let y = h 1 in let z = h 2 in let u = h 3 in let w = h 4 in
    (omega arith, (omega arith, (omega arith, (omega arith, (omega arith, (omega arith, (omega arith, (omega arith, groups_each rest (λ i. h (suc (suc (suc (suc (suc i))))))))))))))

pub groups_fit : (bytes : List ℕ) → IsBytes bytes → All (λ v. v < 32) (groups bytes)
groups_fit bytes h = All-from_recursion (λ v. v < 32) (groups bytes) (groups_each bytes h)
