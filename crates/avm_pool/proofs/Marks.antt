-- Marks of the numbers that stand in a list.
use Rattle.std.proofs.Common.{◌≡◌, ◌≢◌, ℕ, ◌+◌, ◌-◌, ◌<◌, ◌≤◌, ◌==◌, List, [], ◌∷◌, ◌++◌, length, take, set, get_or, replicate, Bool, true, false, nat_lt, refl, sym, ap, ◌∙◌, subst, eq-eqb, arith}
use Rattle.std.proofs.lemmas.List.{get_or-set_same, get_or-set_other, get_or-replicate, length-set, length-replicate}
use Rattle.std.proofs.lemmas.List.Sums.{count_by_more_no, count_by_more_yes}
use Rattle.std.proofs.lemmas.Bool.{eqb-true}
use Rattle.std.proofs.lemmas.Bool.Decides.{nat_tests}
use Rattle.avm_pool.specs.Proposals.{AreMarkedNumbers, left_to, times}
use Rattle.avm_pool.proofs.Remaining.{left_no, left_yes}

-- for an empty list no number is marked
pub none_marked : (n : ℕ) → AreMarkedNumbers [] n (replicate n false)
none_marked n = record { count = length-replicate n false; each = λ i d below. get_or-replicate n i false d below }

some_there : (t : ℕ) → nat_lt 0 (t + 1) ≡ true
some_there t = grind (arith, nat_tests)

-- the next number of the list is marked
pub marked_more : (numbers : List ℕ) (i n : ℕ) (marks : List Bool) (x d : ℕ) → i < length numbers → get_or numbers i d ≡ x → 0 < x → x ≤ n → AreMarkedNumbers (take i numbers) n marks → AreMarkedNumbers (take (i + 1) numbers) n (set marks (x - 1) true)
marked_more numbers i n marks x d inside is above within h = record { count = length-set marks (x - 1) true ∙ h.count; each = λ k e below. by_test k e below (x == k + 1) refl } where
  by_test : (k : ℕ) (e : Bool) → k < n → (b : Bool) → (x == k + 1) ≡ b → get_or (set marks (x - 1) true) k e ≡ nat_lt 0 (times (k + 1) (take (i + 1) numbers))
  by_test k e below true same =
      let here : x ≡ k + 1 = eqb-true x (k + 1) same in
      let place : x - 1 ≡ k = omega (arith, here) in
      let P : ℕ → Type 0 = λ j. get_or (set marks (x - 1) true) j e ≡ true in
      let marked : get_or (set marks (x - 1) true) k e ≡ true = subst P place (get_or-set_same marks (x - 1) true e (omega (arith, h.count))) in
      let counted : times (k + 1) (take (i + 1) numbers) ≡ times (k + 1) (take i numbers) + 1 = count_by_more_yes (λ m. m == k + 1) numbers i d inside (rw is same) in
      marked ∙ sym (ap (nat_lt 0) counted ∙ some_there (times (k + 1) (take i numbers)))
  by_test k e below false apart =
      let other : k ≢ x - 1 = λ e. let f : false ≡ true = sym apart ∙ eq-eqb x (k + 1) (omega (arith, e)) in cc in
      let counted : times (k + 1) (take (i + 1) numbers) ≡ times (k + 1) (take i numbers) = count_by_more_no (λ m. m == k + 1) numbers i d inside (rw is apart) in
      get_or-set_other marks (x - 1) k true e other ∙ (h.each k e below ∙ sym (ap (nat_lt 0) counted))

none_there : (t : ℕ) → nat_lt 0 t ≡ false → t ≡ 0
none_there t is = grind (arith, nat_tests)

not_none : (t : ℕ) → nat_lt 0 t ≡ true → t ≡ 0 → ⊥
not_none t is none = grind (arith, nat_tests)

-- a number without a mark is left
pub unmarked_left : (numbers : List ℕ) (n : ℕ) (marks : List Bool) → AreMarkedNumbers numbers n marks → (i : ℕ) (d : Bool) → i < n → get_or marks i d ≡ false → left_to numbers (i + 1) ≡ left_to numbers i ++ (i + 1) ∷ []
unmarked_left numbers n marks h i d below is = left_yes numbers i (none_there (times (i + 1) numbers) (sym (h.each i d below) ∙ is))

pub marked_not_left : (numbers : List ℕ) (n : ℕ) (marks : List Bool) → AreMarkedNumbers numbers n marks → (i : ℕ) (d : Bool) → i < n → get_or marks i d ≡ true → left_to numbers (i + 1) ≡ left_to numbers i
marked_not_left numbers n marks h i d below is = left_no numbers i (not_none (times (i + 1) numbers) (sym (h.each i d below) ∙ is))
