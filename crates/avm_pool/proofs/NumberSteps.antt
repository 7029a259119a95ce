-- Each step on the queue keeps the rule of the numbers.
use Rattle.std.proofs.Common.{◌≡◌, ◌≢◌, ℕ, zero, suc, ◌+◌, ◌≤◌, true, false, true≢false, List, [], ◌∷◌, ◌++◌, length, set, sym, refl, ap, ◌∙◌, subst, ⊎_elim, append_assoc, append-nil, add-one, length-append, arith}
use Rattle.std.specs.List.Sorted.{IsPermutation}
use Rattle.std.proofs.lemmas.List.Sorted.{IsPermutation-refl, IsPermutation-sym, IsPermutation-trans, IsPermutation-cons, IsPermutation-to_front, IsPermutation-middle, IsPermutation-append_right, length_permutation}
use Rattle.std.proofs.lemmas.List.Concat.{flat_map-append}
use mathlib.Core.Option.{some, some-injective, some-ne-none}
use lib.ListN.{get_elem?}
use Rattle.crossbeam_queue.specs.Fifo.{Pushes, Pops, Forks, Learns}
use Rattle.crossbeam_queue.proofs.Lists.{at_set, at_snoc, set_again}
use Rattle.avm_pool.specs.declared.call_numbers.PassState.{PassState}
use Rattle.avm_pool.specs.NumberRule.{hand, numbers_to, all_drawn, OnePuts, Numbered, Allows, AllowsCount}

numbers_to-add_one : (n : ℕ) → numbers_to (n + 1) ≡ numbers_to n ++ (n + 1) ∷ []
numbers_to-add_one n = rw add-one

pub length-numbers_to : (n : ℕ) → length (numbers_to n) ≡ n
length-numbers_to zero = refl
length-numbers_to (suc n) = omega (arith, length-append (numbers_to n) (suc n ∷ []), length-numbers_to n)

all_drawn-set_same : (views : List PassState) (i : ℕ) (v w : PassState) → get_elem? views i ≡ some v → w.drawn ≡ v.drawn → all_drawn (set views i w) ≡ all_drawn views
all_drawn-set_same [] i v w at same = absurd (some-ne-none v (sym at))
all_drawn-set_same (x ∷ xs) zero v w at same = ap (λ d. d ++ all_drawn xs) (same ∙ ap (λ (u : PassState). u.drawn) (sym (some-injective x v at)))
all_drawn-set_same (x ∷ xs) (suc i) v w at same = ap (λ d. x.drawn ++ d) (all_drawn-set_same xs i v w at same)

all_drawn-set_more : (views : List PassState) (i : ℕ) (v w : PassState) (x : ℕ) → get_elem? views i ≡ some v → w.drawn ≡ v.drawn ++ x ∷ [] → IsPermutation (x ∷ all_drawn views) (all_drawn (set views i w))
all_drawn-set_more [] i v w x at more = absurd (some-ne-none v (sym at))
all_drawn-set_more (y ∷ ys) zero v w x at more =
    let rest = all_drawn ys in
    let was : y.drawn ≡ v.drawn = ap (λ (u : PassState). u.drawn) (some-injective y v at) in
    let now : w.drawn ++ rest ≡ y.drawn ++ x ∷ rest = ap (λ d. d ++ rest) (more ∙ ap (λ d. d ++ x ∷ []) (sym was)) ∙ append_assoc y.drawn (x ∷ []) rest in
    let P : List ℕ → Type 0 = λ d. IsPermutation (x ∷ (y.drawn ++ rest)) d in
    subst P (sym now) (IsPermutation-sym _ _ (IsPermutation-middle y.drawn x rest))
all_drawn-set_more (y ∷ ys) (suc i) v w x at more =
    IsPermutation-trans _ _ _ (IsPermutation-sym _ _ (IsPermutation-middle y.drawn x (all_drawn ys))) (IsPermutation-append_right y.drawn _ _ (all_drawn-set_more ys i v w x at more))

-- a pass that has drawn nothing
all_drawn-more : (views : List PassState) (w : PassState) → w.drawn ≡ [] → all_drawn (views ++ w ∷ []) ≡ all_drawn views
all_drawn-more views w none = flat_map-append (λ (v : PassState). v.drawn) views (w ∷ []) ∙ ap (λ d. all_drawn views ++ (d ++ [])) none ∙ append-nil (all_drawn views)

-- the rule holds of an empty queue with one pass, which may put and has put nothing
pub begins : Numbered [] (hand true 0 [] ∷ [])
begins = (0, 0, (λ i v at puts. first i v at), IsPermutation-refl []) where
  first : (i : ℕ) (v : PassState) → get_elem? (hand true 0 [] ∷ []) i ≡ some v → (i ≡ 0) × (v.put ≡ 0)
  first zero v at = (refl, ap (λ (u : PassState). u.put) (sym (some-injective (hand true 0 []) v at)))
  first (suc i) v at = absurd (some-ne-none v (sym at))

-- a put, a draw and a new pass each keep the rule
pub puts : (n pass : ℕ) (v : PassState) (x : ℕ) → v.puts ≡ true → x ≡ v.put + 1 → Pushes Numbered n pass v x (λ w. w ≡ hand v.puts (v.put + 1) v.drawn)
puts n pass v x may next items views room h at =
    let w = hand v.puts (v.put + 1) v.drawn in
    let mine = h.2 pass v at may in
    let drawn = all_drawn views in
    let one : OnePuts h.0 (h.1 + 1) (set views pass w) = λ i u here can. ⊎_elim
    (λ (t : (i ≡ pass) × (w ≡ u)). (t.0 ∙ mine.0, ap (λ (y : PassState). y.put) (sym t.1) ∙ ap (λ k. k + 1) mine.1))
    (λ (t : (i ≢ pass) × (get_elem? views i ≡ some u)). absurd (t.0 ((h.2 i u t.1 can).0 ∙ sym mine.0)))
    (at_set views pass i w u here) in
    let same : x ∷ [] ≡ (h.1 + 1) ∷ [] = ap (λ k. k ∷ []) (next ∙ ap (λ k. k + 1) mine.1) in
    let P : List ℕ → List ℕ → Type 0 = λ a b. IsPermutation a b in
    let all : IsPermutation (items ++ x ∷ drawn) (numbers_to h.1 ++ x ∷ []) = IsPermutation-trans _ _ _ (IsPermutation-middle items x drawn)
    (IsPermutation-trans _ _ _ (IsPermutation-cons x _ _ h.3) (IsPermutation-sym _ _ (IsPermutation-to_front (numbers_to h.1) x))) in
    let left : (items ++ x ∷ []) ++ all_drawn (set views pass w) ≡ items ++ x ∷ drawn = ap (λ d. (items ++ x ∷ []) ++ d) (all_drawn-set_same views pass v w at refl) ∙ append_assoc items (x ∷ []) drawn in
    let right : numbers_to (h.1 + 1) ≡ numbers_to h.1 ++ x ∷ [] = numbers_to-add_one h.1 ∙ ap (λ d. numbers_to h.1 ++ d) (sym same) in
    (w, (h.0, h.1 + 1, one, rw (left, right) all), refl)

pub draws : (pass : ℕ) (v : PassState) → Pops Numbered pass v (λ x w. w ≡ hand v.puts v.put (v.drawn ++ x ∷ []))
draws pass v x items views h at =
    let w = hand v.puts v.put (v.drawn ++ x ∷ []) in
    let one : OnePuts h.0 h.1 (set views pass w) = λ i u here can. ⊎_elim
    (λ (t : (i ≡ pass) × (w ≡ u)). let mine = h.2 pass v at (ap (λ (y : PassState). y.puts) t.1 ∙ can) in (t.0 ∙ mine.0, ap (λ (y : PassState). y.put) (sym t.1) ∙ mine.1))
    (λ (t : (i ≢ pass) × (get_elem? views i ≡ some u)). h.2 i u t.1 can)
    (at_set views pass i w u here) in
    let moved : IsPermutation (items ++ all_drawn (set views pass w)) (x ∷ (items ++ all_drawn views)) = IsPermutation-trans _ _ _
    (IsPermutation-append_right items _ _ (IsPermutation-sym _ _ (all_drawn-set_more views pass v w x at refl))) (IsPermutation-middle items x (all_drawn views)) in
    (w, (h.0, h.1, one, IsPermutation-trans _ _ _ moved h.3), refl)

pub forks : (pass : ℕ) (v : PassState) → Forks Numbered pass v (hand v.puts v.put v.drawn) (hand false 0 [])
forks pass v items views h at =
    let worker = hand false 0 [] in
    let one : OnePuts h.0 h.1 (views ++ worker ∷ []) = λ i u here can. ⊎_elim (λ t. h.2 i u t can)
    (λ (t : worker ≡ u). absurd (true≢false (sym (ap (λ (y : PassState). y.puts) t ∙ can)))) (at_snoc views worker u i here) in
    let now : Numbered items (views ++ worker ∷ []) = (h.0, h.1, one, rw (all_drawn-more views worker refl) h.3) in
    let P : List PassState → Type 0 = λ vs. Numbered items (vs ++ worker ∷ []) in
    subst P (sym (set_again views pass v at)) now

-- what a pass learns of the queue at a moment, the rule allows
pub allows : (pass : ℕ) (v : PassState) → Learns Numbered pass v (Allows v)
allows pass v items views h at = (pass, views, h, at)

-- the numbers queued are among those put
pub room_taken : (n : ℕ) (v : PassState) → v.puts ≡ true → AllowsCount n v → n ≤ v.put
room_taken n v may m =
    let h = m.2.2 in
    let mine = h.2 m.2.0 v m.2.3 may in
    let all = length_permutation _ _ h.3 in
    omega (arith, all, length-numbers_to h.1, length-append m.0 (all_drawn m.2.1), m.1, mine.1)
