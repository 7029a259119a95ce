-- The numbers 1 to n that do not stand in a list.
use Rattle.std.proofs.Common.{◌≡◌, ℕ, zero, suc, ◌+◌, ◌<◌, ◌≤◌, ◌==◌, ◌⊎◌, inl, inr, ⊎_elim, List, [], ◌∷◌, ◌++◌, Bool, true, false, cond, refl, sym, ap, ◌∙◌, AllPairs, All, append-nil, add-one, eq-eqb, ne_eqb, arith}
use Rattle.std.specs.Prelude.{if◌then◌else◌}
use Rattle.std.proofs.lemmas.List.Sums.{sum_by-append, sum_by-cons}
use Rattle.std.proofs.lemmas.List.Elements.{All-push}
use Rattle.std.proofs.lemmas.List.Quantifiers.{all_pairs_push}
use Rattle.std.proofs.lemmas.Bool.Decides.{nat_tests}
use Rattle.std.proofs.lemmas.Bool.{eqb-true}
use Rattle.avm_pool.specs.Proposals.{times, left_to, AreNumbersTo}

times-append : (m : ℕ) (xs ys : List ℕ) → times m (xs ++ ys) ≡ times m xs + times m ys
times-append m xs ys = sum_by-append (λ (x : ℕ). cond (x == m) 1 0) xs ys

more : Bool → ℕ → List ℕ
more b k = if b then k ∷ [] else []

abbrev mark : ℕ → ℕ → ℕ
mark k m = cond (k == m) 1 0

mark_yes : (k m : ℕ) → k ≡ m → mark k m ≡ 1
mark_yes k m same = ap {B = ℕ} (λ (c : Bool). cond c 1 0) (eq-eqb k m same)

mark_no : (k m : ℕ) → (k ≡ m → ⊥) → mark k m ≡ 0
mark_no k m apart = ap {B = ℕ} (λ (c : Bool). cond c 1 0) (ne_eqb k m apart)

chosen : Bool → ℕ → ℕ
chosen true t = t
chosen false t = 0

times-more : (b : Bool) (k m : ℕ) → times m (more b k) ≡ chosen b (mark k m)
unfolding more chosen
times-more true k m = let e : times m (k ∷ []) ≡ mark k m + 0 = sum_by-cons (λ (x : ℕ). mark x m) k [] in omega (arith, e)
times-more false k m = refl

step : (xs : List ℕ) (n m : ℕ) → times m (left_to xs (suc n)) ≡ times m (left_to xs n) + chosen (times (suc n) xs == 0) (mark (suc n) m)
unfolding more
step xs n m = times-append m (left_to xs n) (more (times (suc n) xs == 0) (suc n)) ∙ ap (λ k. times m (left_to xs n) + k) (times-more (times (suc n) xs == 0) (suc n) m)

grown : (b : Bool) (k m : ℕ) → (k ≡ m → ⊥) → chosen b (mark k m) ≡ 0
unfolding chosen
grown true k m apart = mark_no k m apart
grown false k m apart = refl

hit : (b : Bool) (k m : ℕ) → k ≡ m → chosen b (mark k m) ≡ cond b 1 0
unfolding chosen
hit true k m same = mark_yes k m same
hit false k m same = refl

absent : (xs : List ℕ) (n m : ℕ) → n < m → times m (left_to xs n) ≡ 0
absent xs zero m over = refl
absent xs (suc n) m over = let s = step xs n m in let a = absent xs n m (omega arith) in let g = grown (times (suc n) xs == 0) (suc n) m (λ e. omega arith) in omega (arith, s, a, g)

no_zero : (xs : List ℕ) (n : ℕ) → times 0 (left_to xs n) ≡ 0
no_zero xs zero = refl
no_zero xs (suc n) = let s = step xs n 0 in let a = no_zero xs n in let g = grown (times (suc n) xs == 0) (suc n) 0 (λ e. omega arith) in omega (arith, s, a, g)

split_top : (m n : ℕ) → m ≤ suc n → (suc n ≡ m) ⊎ (m ≤ n)
split_top m n le = by_test (suc n == m) refl where
  by_test : (b : Bool) → (suc n == m) ≡ b → (suc n ≡ m) ⊎ (m ≤ n)
  by_test true is = inl (eqb-true (suc n) m is)
  by_test false is = inr (grind (arith, nat_tests))

present : (xs : List ℕ) (n m : ℕ) → 1 ≤ m → m ≤ n → times m (left_to xs n) ≡ cond (times m xs == 0) 1 0
present xs zero m low high = absurd (omega arith)
present xs (suc n) m low high = ⊎_elim
    (λ (top : suc n ≡ m). let s = step xs n m in let a = absent xs n m (omega arith) in let h = hit (times (suc n) xs == 0) (suc n) m top in
    let here : cond {A = ℕ} (times (suc n) xs == 0) 1 0 ≡ cond {A = ℕ} (times m xs == 0) 1 0 = ap {B = ℕ} (λ k. cond (times k xs == 0) 1 0) top in omega (arith, s, a, h, here))
    (λ (below : m ≤ n). let s = step xs n m in let p = present xs n m low below in let g = grown (times (suc n) xs == 0) (suc n) m (λ e. omega arith) in omega (arith, s, p, g))
    (split_top m n high)

once : (t : ℕ) → t ≤ 1 → t + cond (t == 0) 1 0 ≡ 1
once t le = grind (arith, nat_tests)

bounded : (xs : List ℕ) (n m : ℕ) → 0 < times m (left_to xs n) → (1 ≤ m) × (m ≤ n)
bounded xs zero m some = absurd (omega arith)
bounded xs (suc n) m some = wide (times (suc n) xs == 0) (suc n == m) refl (let s = step xs n m in omega (arith, s)) (λ h. bounded xs n m h) where
  wide : (b c : Bool) → (suc n == m) ≡ c → 0 < times m (left_to xs n) + chosen b (mark (suc n) m) → (0 < times m (left_to xs n) → (1 ≤ m) × (m ≤ n)) → (1 ≤ m) × (m ≤ suc n)
  wide b true is h low = let e : suc n ≡ m = eqb-true (suc n) m is in (omega arith, omega arith)
  wide b false is h low = let g = grown b (suc n) m (λ e. let f : false ≡ true = sym is ∙ eq-eqb (suc n) m e in cc) in let r = low (omega (arith, g)) in (r.0, omega arith)

inside : (xs : List ℕ) (n m : ℕ) → ((m : ℕ) → 0 < times m xs → (1 ≤ m) × (m ≤ n)) → 0 < times m xs + times m (left_to xs n) → (b : Bool) → (times m xs == 0) ≡ b → (1 ≤ m) × (m ≤ n)
inside xs n m within some true is = bounded xs n m (let e = eqb-true (times m xs) 0 is in omega arith)
inside xs n m within some false is = within m (grind (arith, nat_tests))

-- a list of numbers from 1 to n, each at most once, and those left are all of them
pub all_numbers : (xs : List ℕ) (n : ℕ) → ((m : ℕ) → times m xs ≤ 1) → ((m : ℕ) → 0 < times m xs → (1 ≤ m) × (m ≤ n)) → AreNumbersTo n (xs ++ left_to xs n)
all_numbers xs n once_each within = record {
  each = λ m low high. let a = times-append m xs (left_to xs n) in let p = present xs n m low high in let o = once (times m xs) (once_each m) in omega (arith, a, p, o);
  none = λ m some. let a = times-append m xs (left_to xs n) in inside xs n m within (omega (arith, a)) (times m xs == 0) refl;
}

-- the next number is left exactly where it does not stand in the list
pub left_yes : (xs : List ℕ) (n : ℕ) → times (n + 1) xs ≡ 0 → left_to xs (n + 1) ≡ left_to xs n ++ (n + 1) ∷ []
left_yes xs n none = rw add-one (ap (λ (b : Bool). left_to xs n ++ (if b then suc n ∷ [] else [])) (eq-eqb (times (suc n) xs) 0 (rw (← add-one) none)))

pub left_no : (xs : List ℕ) (n : ℕ) → (times (n + 1) xs ≡ 0 → ⊥) → left_to xs (n + 1) ≡ left_to xs n
left_no xs n some = rw add-one (ap (λ (b : Bool). left_to xs n ++ (if b then suc n ∷ [] else [])) (ne_eqb (times (suc n) xs) 0 (λ e. some (rw add-one e))) ∙ append-nil (left_to xs n))

at_most_more : (xs : List ℕ) (n : ℕ) (b : Bool) → All (λ k. k ≤ n) xs → All (λ k. k ≤ suc n) (xs ++ (if b then suc n ∷ [] else []))
at_most_more xs n true h = All-push (λ (k : ℕ). k ≤ suc n) xs (suc n) (λ k d l. let x = h k d l in omega arith) (omega arith)
at_most_more xs n false h = rw (append-nil xs) (λ k d l. let x = h k d l in omega arith)

at_most : (xs : List ℕ) (n : ℕ) → All (λ k. k ≤ n) (left_to xs n)
at_most xs zero = λ k d l. absurd (omega arith)
at_most xs (suc n) = at_most_more (left_to xs n) n (times (suc n) xs == 0) (at_most xs n)

rising_more : (xs : List ℕ) (n : ℕ) (b : Bool) → All (λ k. k ≤ n) xs → AllPairs ◌<◌ xs → AllPairs ◌<◌ (xs ++ (if b then suc n ∷ [] else []))
rising_more xs n true h up = all_pairs_push ◌<◌ xs (suc n) up (λ k d l. let x = h k d l in omega arith)
rising_more xs n false h up = rw (append-nil xs) up

-- the numbers left rise
pub rising : (xs : List ℕ) (n : ℕ) → AllPairs ◌<◌ (left_to xs n)
rising xs zero = λ i j d a l. absurd (omega arith)
rising xs (suc n) = rising_more (left_to xs n) n (times (suc n) xs == 0) (at_most xs n) (rising xs n)
