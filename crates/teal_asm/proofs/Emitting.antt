-- Where instructions stand in a program, and how they are written one behind another.
use Rattle.std.proofs.Common.{◌≡◌, ℕ, zero, suc, ◌+◌, ◌-◌, ◌<◌, ◌≤◌, min, List, [], ◌∷◌, ◌++◌, length, take, drop, get_or, refl, sym, ap, ◌∙◌, append_assoc, length-append, inl, inr, arith, zero-add}
use Rattle.std.proofs.Common.{true, false, ltb, Ok, Err}
use Rattle.std.proofs.lemmas.Bool.{cases_lt, lt-ltb, le-ltb}
use Rattle.std.proofs.lemmas.List.{take-append-drop, take_min, drop_more, get_or_append_left, get_or_past, drop_all, append-nil}
use Rattle.std.proofs.Math.Seq.{get_or-append_seam, take-length, take-nil, drop-nil}
use Rattle.teal_code.specs.Limits.{most_program_bytes}
use Rattle.teal_asm.specs.declared.emit.Instruction.{Instruction}
use Rattle.teal_source.specs.declared.fault.AsmFaultKind.TheVariants as kind
use Rattle.teal_asm.specs.Meaning.{Meant, Straight, Branch}
use Rattle.teal_asm.specs.Program.{size, total_size, instruction_encoding, encoding, short_program}
use Rattle.teal_asm.specs.Instructions.{meant, all_meant, ArePlaces}

total-append : (xs ys : List Meant) → total_size (xs ++ ys) ≡ total_size xs + total_size ys
total-append [] ys = omega arith
total-append (x ∷ xs) ys = omega (arith, total-append xs ys)

-- the place of the k-th instruction
abbrev place : List Meant → ℕ → ℕ
place xs k = total_size (take k xs)

-- no instruction stands behind the end
pub place-le : (xs : List Meant) (k : ℕ) → place xs k ≤ total_size xs
place-le xs k = omega (arith, ap total_size (take-append-drop k xs), total-append (take k xs) (drop k xs))

-- from one place to a later one
place-add : (xs : List Meant) (n m : ℕ) → place xs (n + m) ≡ place xs n + total_size (take m (drop n xs))
place-add [] n m =
    let none : total_size (take m (drop n [])) ≡ 0 = ap (λ xs. total_size (take m xs)) (drop-nil n) ∙ ap total_size (take-nil m) in
    omega (arith, ap total_size (take-nil {A = Meant} (n + m)), ap total_size (take-nil {A = Meant} n), none)
place-add (x ∷ xs) zero m =
    let same : place (x ∷ xs) (zero + m) ≡ place (x ∷ xs) m = ap (λ k. place (x ∷ xs) k) (zero-add m) in
    omega (arith, same)
place-add (x ∷ xs) (suc n) m =
    let one : suc n + m ≡ suc (n + m) = omega arith in
    let more : place (x ∷ xs) (suc n + m) ≡ size x + place xs (n + m) = ap (λ k. place (x ∷ xs) k) one in
    more ∙ ap (λ k. size x + k) (place-add xs n m) ∙ omega arith

sum_back : (a b : ℕ) → a ≤ b → b ≡ a + (b - a)
sum_back a b le = omega arith

-- a branch leads over the instructions between it and its target
pub skipped : (xs : List Meant) (n t : ℕ) → total_size (take (t - (n + 1)) (drop (n + 1) xs)) ≡ place xs (min t (length xs)) - place xs (n + 1)
skipped xs n t =
    elim (cases_lt t (n + 1)) [
      | inl lt ↦
          let up = place-add xs t (n + 1 - t) in
          let whole : place xs (n + 1) ≡ place xs t + total_size (take (n + 1 - t) (drop t xs)) = ap (λ k. place xs k) (sum_back t (n + 1) (omega arith)) ∙ up in
          let none : t - (n + 1) ≡ 0 = omega arith in
          rw (none, take_min t xs) (omega (arith, whole))
      | inr le ↦
          let up = place-add xs (n + 1) (t - (n + 1)) in
          let whole : place xs t ≡ place xs (n + 1) + total_size (take (t - (n + 1)) (drop (n + 1) xs)) = ap (λ k. place xs k) (sum_back (n + 1) t le) ∙ up in
          rw (take_min t xs) (omega (arith, whole))
    ]

pub length-meant : (is : List Instruction) → length (all_meant is) ≡ length is
length-meant [] = refl
length-meant (i ∷ is) = ap suc (length-meant is)

-- the instructions from one on
pub drop-meant : (is : List Instruction) (i : ℕ) (x : Instruction) → i < length is → x ≡ get_or is i x → drop i (all_meant is) ≡ meant x ∷ drop (i + 1) (all_meant is)
drop-meant is i x lt at =
    drop_more (all_meant is) i (meant x) (omega (arith, length-meant is)) ∙ ap (λ y. y ∷ drop (i + 1) (all_meant is)) (item is i ∙ ap meant (sym at))
  where
    item : (js : List Instruction) (j : ℕ) → get_or (all_meant js) j (meant x) ≡ meant (get_or js j x)
    item [] j = refl
    item (y ∷ js) zero = refl
    item (y ∷ js) (suc j) = item js j

-- the next instruction stands behind this one by its size
pub place-next : (is : List Instruction) (i : ℕ) (x : Instruction) → i < length is → x ≡ get_or is i x → place (all_meant is) (i + 1) ≡ place (all_meant is) i + size (meant x)
place-next is i x lt at =
    place-add (all_meant is) i 1 ∙ ap (λ ys. place (all_meant is) i + total_size (take 1 ys)) (drop-meant is i x lt at) ∙ omega arith

-- ---- places, one behind another

-- the places of the first instructions, and of what stands behind them
pub record PlacesSoFar (is : List Meant) (i : ℕ) (places : List ℕ) (now : ℕ) : Type 0 where
  pub within : i ≤ length is
  pub count : length places ≡ i + 1
  pub here : now ≡ place is i
  pub small : now ≤ 1023
  pub each : (k : ℕ) → k ≤ i → get_or places k 0 ≡ place is k

pub first_place : (is : List Meant) (places : List ℕ) → places ≡ 0 ∷ [] → PlacesSoFar is 0 places 0
first_place is places e = rw e (record { within = omega arith; count = omega arith; here = refl; small = omega arith; each = λ k le. at_zero k le })
  where
    at_zero : (k : ℕ) → k ≤ 0 → get_or (0 ∷ []) k 0 ≡ total_size (take k is)
    at_zero zero le = refl
    at_zero (suc k) le = absurd (omega arith)

pub next_place : (is : List Instruction) (i : ℕ) (x : Instruction) (places more : List ℕ) (now next : ℕ) → i < length is → x ≡ get_or is i x → PlacesSoFar (all_meant is) i places now
    → next ≡ now + size (meant x) → next ≤ 1023 → more ≡ places ++ next ∷ [] → PlacesSoFar (all_meant is) (i + 1) more next
next_place is i x places more now next lt at p sum small pushed =
    let here : next ≡ place (all_meant is) (i + 1) = omega (arith, sum, p.here, place-next is i x lt at) in
    rw pushed (record {
      within = omega (arith, length-meant is);
      count = omega (arith, length-append places (next ∷ []), p.count);
      here = here;
      small = small;
      each = λ k le. there k le here;
    })
  where
    there : (k : ℕ) → k ≤ i + 1 → next ≡ place (all_meant is) (i + 1) → get_or (places ++ next ∷ []) k 0 ≡ place (all_meant is) k
    there k le here = elim (cases_lt k (i + 1)) [
      | inl lt ↦ get_or_append_left places (next ∷ []) 0 k (omega (arith, p.count)) ∙ p.each k (omega arith)
      | inr ge ↦
          let same : k ≡ length places = omega (arith, p.count) in
          let end : k ≡ i + 1 = omega arith in
          ap (λ j. get_or (places ++ next ∷ []) j 0) same ∙ get_or-append_seam places next [] 0 ∙ here ∙ ap (place (all_meant is)) (sym end)
    ]

-- where the next place is above 1023, the instructions take more than 1023 bytes
pub too_far : (is : List Instruction) (i : ℕ) (x : Instruction) (places : List ℕ) (now next : ℕ) → i < length is → x ≡ get_or is i x → PlacesSoFar (all_meant is) i places now → next ≡ now + size (meant x) → 1023 < next → 1023 < total_size (all_meant is)
too_far is i x places now next lt at p sum large = omega (arith, sum, p.here, place-next is i x lt at, place-le (all_meant is) (i + 1))

pub all_places : (is : List Instruction) (i : ℕ) (places : List ℕ) (now : ℕ) → length is ≤ i → PlacesSoFar (all_meant is) i places now → ArePlaces (all_meant is) places
all_places is i places now ge p =
    let same : i ≡ length (all_meant is) = omega (arith, length-meant is, p.within) in
    record {
      count = omega (arith, p.count, same);
      small = omega (arith, p.small, p.here, ap (λ k. place (all_meant is) k) same, ap total_size (take-length (all_meant is)));
      each = λ k bound. p.each k (omega arith);
    }

-- ---- the bytes, one behind another

-- no place is above 1023
pub places_small : (is : List Meant) (places : List ℕ) → ArePlaces is places → (k : ℕ) → get_or places k 0 ≤ 1023
places_small is places p k = elim (cases_lt k (length is + 1)) [
  | inl lt ↦ omega (arith, p.each k (omega arith), place-le is k, p.small)
  | inr ge ↦ omega (arith, get_or_past places k 0 (omega (arith, p.count)))
]

-- the distance from behind a branch to its target is the size of the instructions between
pub branch_offset : (is : List Meant) (places : List ℕ) (n t : ℕ) → ArePlaces is places → n < length is
    → get_or places (min t (length places - 1)) 0 - get_or places (n + 1) 0 ≡ total_size (take (t - (n + 1)) (drop (n + 1) is))
branch_offset is places n t p lt =
    let last : length places - 1 ≡ length is = omega (arith, p.count) in
    let to : get_or places (min t (length is)) 0 ≡ place is (min t (length is)) = p.each (min t (length is)) (omega arith) in
    let from : get_or places (n + 1) 0 ≡ place is (n + 1) = p.each (n + 1) (omega arith) in
    rw last (rw (to, from) (sym (skipped is n t)))

-- what is written, and the instructions that are left, are all that is to be written
pub record WritesOn (code : List ℕ) (number : ℕ) (rest : List Meant) (all : List ℕ) : Type 0 where
  pub same : code ++ encoding number rest ≡ all

pub write_begins : (code : List ℕ) (v : ℕ) (is : List Meant) → code ≡ v ∷ [] → WritesOn code 0 is (v ∷ encoding 0 is)
write_begins code v is e = rw e (record { same = refl })

pub writes_on : (is : List Instruction) (i : ℕ) (x : Instruction) (code now all : List ℕ) → i < length is → x ≡ get_or is i x → WritesOn code i (drop i (all_meant is)) all
    → now ≡ code ++ instruction_encoding i (meant x) (drop (i + 1) (all_meant is)) → WritesOn now (i + 1) (drop (i + 1) (all_meant is)) all
unfolding encoding
writes_on is i x code now all lt at w pushed =
    let here : encoding i (drop i (all_meant is)) ≡ instruction_encoding i (meant x) (drop (i + 1) (all_meant is)) ++ encoding (i + 1) (drop (i + 1) (all_meant is)) =
    ap (encoding i) (drop-meant is i x lt at) in
    record { same = rw pushed (append_assoc code _ _ ∙ ap (λ r. code ++ r) (sym here) ∙ w.same) }

pub write_ends : (is : List Instruction) (i : ℕ) (code all : List ℕ) → length is ≤ i → WritesOn code i (drop i (all_meant is)) all → code ≡ all
unfolding encoding
write_ends is i code all ge w =
    let none : encoding i (drop i (all_meant is)) ≡ [] = ap (encoding i) (drop_all i (all_meant is) (omega (arith, length-meant is))) in
    sym (append-nil code) ∙ ap (λ r. code ++ r) (sym none) ∙ w.same

-- ---- how long a program is

size-encoding : (n : ℕ) (i : Meant) (rest : List Meant) → length (instruction_encoding n i rest) ≡ size i
size-encoding n (Straight o immediates) rest = refl
size-encoding n (Branch o target) rest = refl

pub length-encoding : (n : ℕ) (is : List Meant) → length (encoding n is) ≡ total_size is
unfolding encoding
length-encoding n [] = refl
length-encoding n (i ∷ is) = omega (arith, length-append (instruction_encoding n i is) (encoding (n + 1) is), size-encoding n i is, length-encoding (n + 1) is)

-- instructions of at most 1023 bytes make a program that is short enough
pub fits : (line : ℕ) (code : List ℕ) (v : ℕ) (is : List Meant) → total_size is ≤ 1023 → code ≡ v ∷ encoding 0 is → short_program line (v ∷ encoding 0 is) ≡ Ok code
fits line code v is small e =
    let test : ltb most_program_bytes (length (v ∷ encoding 0 is)) ≡ false = le-ltb most_program_bytes (length (v ∷ encoding 0 is)) (omega (arith, length-encoding 0 is)) in
    rw test (ap (λ bytes. Ok bytes) (sym e))

-- instructions of more than 1023 bytes make a program that is refused as too long
pub is_too_long : (line v : ℕ) (is : List Meant) → 1023 < total_size is → short_program line (v ∷ encoding 0 is) ≡ Err (record { line = line; kind = kind.TooLong })
is_too_long line v is large =
    let test : ltb most_program_bytes (length (v ∷ encoding 0 is)) ≡ true = lt-ltb most_program_bytes (length (v ∷ encoding 0 is)) (omega (arith, length-encoding 0 is)) in
    rw test refl
