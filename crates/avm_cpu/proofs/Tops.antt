-- Values by their place from the top, where the top is the last of the first values of a list, so many.
use Rattle.std.proofs.Common.{◌≡◌, ℕ, suc, ◌+◌, ◌-◌, ◌<◌, ◌≤◌, List, [], ◌∷◌, ◌++◌, length, take, drop, get_or, set, ap, sym, ◌∙◌, arith, length-drop}
use Rattle.std.specs.Prelude.{reverse, slice_get, IfOk, Some}
use Rattle.std.specs.List.{refill, swap}
use Rattle.std.proofs.lemmas.List.{append_assoc, drop_all, drop_at, length-reverse, length-set, length-take-le, reverse-append, take-set, take_at, take_more_set}
use Rattle.std.proofs.lemmas.List.Edits.{swap_is}
use Rattle.std.proofs.lemmas.Option.{get_or_from_slice_get}
use Rattle.std.proofs.Math.Seq.{take-add, take-suc}
use Rattle.teal_value.specs.declared.value.Value.{Value}
use Rattle.teal_value.specs.declared.value.Value.TheVariants.{Uint}
use Rattle.avm_cpu.specs.Machine.{Machine}
use Rattle.avm_cpu.specs.Operands.{two_values}

-- how many the first n are
pub many : {A : Type 0} (n : ℕ) (xs : List A) → n ≤ length xs → length (reverse (take n xs)) ≡ n
many n xs within = length-reverse (take n xs) ∙ length-take-le n xs within

-- how far a machine's stack goes, which is shown from the first n values of a list
pub goes_so_far : {shown m : Machine} (n : ℕ) (xs : List Value) → shown.stack ≡ reverse (take n xs) → shown ≡ m → n ≤ length xs → length m.stack ≡ n
goes_so_far n xs from is within = ap (λ (machine : Machine). length machine.stack) (sym is) ∙ ap length from ∙ many n xs within

-- all but the last k of the first n, the other way round
pub drop_tops : {A : Type 0} (k n : ℕ) (xs : List A) → k ≤ n → n ≤ length xs → drop k (reverse (take n xs)) ≡ reverse (take (n - k) xs)
drop_tops k n xs h within =
    let m = n - k in
    let last = take k (drop m xs) in
    let both : n ≡ m + k = omega arith in
    let whole = ap (λ j. reverse (take j xs)) both ∙ ap reverse (take-add m k xs) ∙ reverse-append (take m xs) last in
    let there : k ≤ length (drop m xs) = omega (arith, length-drop m xs) in
    let long : length (reverse last) ≡ k = many k (drop m xs) there in
    ap (drop k) whole ∙ drop_at (reverse last) (reverse (take m xs)) k long

-- a value in the place of the last k of the first n
pub put_tops : {A : Type 0} (k n : ℕ) (xs : List A) (v : A) → k ≤ n → n ≤ length xs → n - k < length xs → reverse (take (n - k + 1) (set xs (n - k) v)) ≡ v ∷ drop k (reverse (take n xs))
put_tops k n xs v h within room =
    ap reverse (take_more_set xs (n - k) v room)
    ∙ reverse-append (take (n - k) xs) (v ∷ [])
    ∙ ap (λ rest. v ∷ rest) (sym (drop_tops k n xs h within))

-- a value behind the first n
pub push_tops : {A : Type 0} (n : ℕ) (xs : List A) (v : A) → n < length xs → reverse (take (n + 1) (set xs n v)) ≡ v ∷ reverse (take n xs)
push_tops n xs v room = ap reverse (take_more_set xs n v room) ∙ reverse-append (take n xs) (v ∷ [])

one_more : {A : Type 0} (xs : List A) (i : ℕ) (d : A) → i < length xs → take (i + 1) xs ≡ take i xs ++ (get_or xs i d ∷ [])
one_more xs i d h = let next : i + 1 ≡ suc i = omega arith in ap (λ n. take n xs) next ∙ take-suc xs i d h

-- the first n by the last of them
pub top_is : {A : Type 0} (n : ℕ) (xs : List A) (v : A) → 0 < n → n ≤ length xs → slice_get xs (n - 1) ≡ Some v → reverse (take n xs) ≡ v ∷ drop 1 (reverse (take n xs))
top_is n xs v some within is =
    let i = n - 1 in
    let front = take i xs in
    let next : n ≡ i + 1 = omega arith in
    let item : get_or xs i v ≡ v = get_or_from_slice_get xs i v v is in
    let whole : reverse (take n xs) ≡ v ∷ reverse front =
    ap (λ j. reverse (take j xs)) next ∙ ap reverse (one_more xs i v (omega arith)) ∙ ap (λ x. reverse (front ++ (x ∷ []))) item ∙ reverse-append front (v ∷ []) in
    whole ∙ ap (λ ys. v ∷ drop 1 ys) (sym whole)

-- the first but one, where the last of them was written over
pub rest_is : {A : Type 0} (n : ℕ) (xs : List A) (v : A) → 0 < n → n ≤ length xs → reverse (take (n - 1) (set xs (n - 1) v)) ≡ drop 1 (reverse (take n xs))
rest_is n xs v some within = ap reverse (take-set xs (n - 1) v) ∙ sym (drop_tops 1 n xs (omega arith) within)

last_two : {A : Type 0} (xs : List A) (i : ℕ) (d : A) → i + 1 < length xs → take (i + 1 + 1) xs ≡ take i xs ++ (get_or xs i d ∷ get_or xs (i + 1) d ∷ [])
last_two xs i d long =
    one_more xs (i + 1) d long
    ∙ ap (λ front. front ++ (get_or xs (i + 1) d ∷ [])) (one_more xs i d (omega arith))
    ∙ append_assoc (take i xs) (get_or xs i d ∷ []) (get_or xs (i + 1) d ∷ [])

swap_two : {A : Type 0} (xs : List A) (i : ℕ) (d : A) → i + 1 < length xs → take (i + 1 + 1) (swap xs i (i + 1)) ≡ take i xs ++ (get_or xs (i + 1) d ∷ get_or xs i d ∷ [])
swap_two xs i d long =
    let first = set xs i (get_or xs (i + 1) d) in
    let same : length first ≡ length xs = length-set xs i (get_or xs (i + 1) d) in
    ap (take (i + 1 + 1)) (sym (swap_is xs i (i + 1) d (omega arith) (omega arith)))
    ∙ take_more_set first (i + 1) (get_or xs i d) (omega arith)
    ∙ ap (λ front. front ++ (get_or xs i d ∷ [])) (take_more_set xs i (get_or xs (i + 1) d) (omega arith))
    ∙ append_assoc (take i xs) (get_or xs (i + 1) d ∷ []) (get_or xs i d ∷ [])

-- the last two of the first n in each other's place
pub swapped : (xs ys : List Value) (i n : ℕ) → n ≡ i + 1 + 1 → n ≤ length xs → ys ≡ swap xs i (i + 1) → IfOk (two_values (reverse (take n xs))) (λ p. reverse (take n ys) ≡ p.0 ∷ p.1 ∷ drop 2 (reverse (take n xs)))
swapped xs ys i n is within swaps =
    let d : Value = Uint 0 in
    let a = get_or xs i d in
    let b = get_or xs (i + 1) d in
    let before : reverse (take n xs) ≡ b ∷ a ∷ reverse (take i xs) = ap (λ j. reverse (take j xs)) is ∙ ap reverse (last_two xs i d (omega arith)) ∙ reverse-append (take i xs) (a ∷ b ∷ []) in
    let after : reverse (take n ys) ≡ a ∷ b ∷ reverse (take i xs) = (λ k. reverse (take (is k) (swaps k))) ∙ ap reverse (swap_two xs i d (omega arith)) ∙ reverse-append (take i xs) (b ∷ a ∷ []) in
    rw before after

-- a slice that is written back whole
pub refilled : {A : Type 0} (xs ws : List A) → length ws ≡ length xs → refill (length xs) xs ws ≡ ws
refilled xs ws same = ap (λ rest. take (length xs) (ws ++ rest)) (drop_all (length ws) xs (omega arith)) ∙ take_at ws [] (length xs) same

-- the first n, where the last of them was written over
pub written_top : {A : Type 0} (n : ℕ) (xs ys : List A) (v : A) → 0 < n → n ≤ length xs → ys ≡ set xs (n - 1) v → reverse (take n ys) ≡ v ∷ drop 1 (reverse (take n xs))
written_top n xs ys v some within is =
    let whole : n ≡ n - 1 + 1 = omega arith in
    let room : n - 1 < length xs = omega arith in
    ap (λ zs. reverse (take n zs)) is
    ∙ ap (λ j. reverse (take j (set xs (n - 1) v))) whole
    ∙ put_tops 1 n xs v (omega arith) within room
