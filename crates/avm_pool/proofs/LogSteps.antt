-- The two steps of a log keep the rule of its book.
use Rattle.std.proofs.Common.{◌≡◌, ◌≢◌, ℕ, ◌+◌, ◌<◌, ◌≤◌, ◌==◌, Bool, true, false, List, [], ◌∷◌, ◌++◌, length, set, refl, ap, sym, ◌∙◌, subst, arith, inl, length-append, None, get_or-set_same, get_or-set_other}
use Rattle.std.proofs.Math.ListN.{length-set, get_or-append}
use Rattle.std.proofs.lemmas.List.{append-nil, set-get_or}
use Rattle.std.proofs.lemmas.Bool.Decides.{nat_tests}
use mathlib.Core.List.{IsPrefix}
use prog.Atomic.{either}
use Rattle.logbook.specs.Pages.{Cell, cell, keeps, gives, adds, no_nib, nib, may_make, may_write, step, Moves, Goes}
use Rattle.mv_parts.specs.CallHistory.{CallEntry}
use Rattle.avm_pool.specs.LogRules.{IsKeptLog, AddsEntry, AddsCell}
use Rattle.avm_pool.proofs.Prefixes.{prefix_whole}

abbrev pub shown : List CallEntry → List CallEntry
shown log = []

abbrev pub moved : List CallEntry → List CallEntry → ℕ → Type 0
moved xs ys n = Unit {0}

either_same-by : (n : ℕ) (b : Bool) → (n == 0) ≡ b → either b 0 n ≡ n
either_same-by n true is = grind (arith, nat_tests)
either_same-by n false is = refl

either_same : (n : ℕ) → either (n == 0) 0 n ≡ n
either_same n = either_same-by n (n == 0) refl

absurd_home : (b : Bool) → b ≡ true → b ≡ false → ⊥
absurd_home b h n = let e : true ≡ false = sym h ∙ n in cc

-- the cells once the word has a number, which is at home
home_after : (cs : List Cell) (n : ℕ) (k : ℕ) → 0 ≢ k → cell (set cs 0 (n, true)) k ≡ cell cs k
home_after cs n k apart = get_or-set_other cs 0 k (n, true) (0, false) (λ e. apart (sym e))

seen_whole-by : (cs : List Cell) (log v : List CallEntry) → IsKeptLog cs log → IsPrefix v log → (cell cs (length v + 2)).1 ≡ false → (b : Bool) → (length log == length v) ≡ b → v ≡ log
seen_whole-by cs log v kept pre away true is = let here : length log ≡ length v = grind (arith, nat_tests) in prefix_whole v log pre (omega arith)
seen_whole-by cs log v kept pre away false is =
    let apart : length log ≢ length v = grind (arith, nat_tests) in
    let less : length v ≤ length log = omega (arith, sym (ap length pre.1) ∙ length-append v pre.0) in
    absurd (absurd_home (cell cs (length v + 2)).1 (kept.home (length v + 2) (omega arith) (omega arith)) away)

-- who has the pen of the next cell has seen the whole history
seen_whole : (cs : List Cell) (log v : List CallEntry) → IsKeptLog cs log → IsPrefix v log → (cell cs (length v + 2)).1 ≡ false → v ≡ log
seen_whole cs log v kept pre away = seen_whole-by cs log v kept pre away (length log == length v) refl

-- the word keeps its number
same_word : (cs : List Cell) (log : List CallEntry) → IsKeptLog cs log → set cs 0 ((cell cs 0).0, true) ≡ cs
same_word cs log kept =
    let word : ((cell cs 0).0, true) ≡ cell cs 0 = ap (λ (b : Bool). ((cell cs 0).0, b)) (sym kept.at_home) in
    ap (set cs 0) word ∙ set-get_or cs 0 (0, false)

home_more : (cs : List Cell) (log : List CallEntry) (key : ℕ) → IsKeptLog cs log → key ≡ length log + 2 → key < length cs → (k : ℕ) → 2 ≤ k → k < length log + 3 → (b : Bool) → (k == key) ≡ b → (cell (set cs key (0, true)) k).1 ≡ true
home_more cs log key kept is within k low high true here =
    let same : k ≡ key = grind (arith, nat_tests) in
    ap (λ (c : Cell). c.1) (subst (λ (n : ℕ). cell (set cs key (0, true)) n ≡ (0, true)) (sym same) (get_or-set_same cs key (0, true) (0, false) within))
home_more cs log key kept is within k low high false here =
    let apart : k ≢ key = grind (arith, nat_tests) in
    ap (λ (c : Cell). c.1) (get_or-set_other cs key k (0, true) (0, false) apart) ∙ kept.home k low (omega arith)

-- one more cell is at home
kept_more : (cs : List Cell) (log : List CallEntry) (e : CallEntry) (key : ℕ) → IsKeptLog cs log → key ≡ length log + 2 → key < length cs → IsKeptLog (set cs key (0, true)) (log ++ e ∷ [])
kept_more cs log e key kept is within =
    let apart : 0 ≢ key = omega arith in
    let word : cell (set cs key (0, true)) 0 ≡ cell cs 0 = get_or-set_other cs key 0 (0, true) (0, false) apart in
    let more : length (log ++ e ∷ []) ≡ length log + 1 = omega (arith, length-append log (e ∷ [])) in
    let size : length (set cs key (0, true)) ≡ length cs = length-set cs key (0, true) in
    record {
      at_home = ap (λ (c : Cell). c.1) word ∙ kept.at_home;
      count = omega (arith, ap (λ (c : Cell). c.0) word, size, kept.count);
      within = omega (arith, more, size, within, is);
      home = λ k low high. home_more cs log key kept is within k low (omega (arith, more, high)) (k == key) refl;
    }

-- one more cell is there
kept_wider : (cs : List Cell) (log : List CallEntry) (n : ℕ) → n ≡ (cell cs 0).0 + 1 → IsKeptLog cs log → IsKeptLog (set cs 0 (n, true) ++ (0, false) ∷ []) log
kept_wider cs log n is kept =
    let size : length (set cs 0 (n, true)) ≡ length cs = length-set cs 0 (n, true) in
    let all : length (set cs 0 (n, true) ++ (0, false) ∷ []) ≡ length cs + 1 = omega (arith, length-append (set cs 0 (n, true)) ((0, false) ∷ []), size) in
    let some : 0 < length (set cs 0 (n, true)) = omega (arith, size, kept.within) in
    let least : 0 < length cs = omega (arith, kept.within) in
    let word : cell (set cs 0 (n, true) ++ (0, false) ∷ []) 0 ≡ (n, true) = get_or-append (set cs 0 (n, true)) ((0, false) ∷ []) (0, false) 0 some ∙ get_or-set_same cs 0 (n, true) (0, false) least in
    record {
      at_home = ap (λ (c : Cell). c.1) word;
      count = omega (arith, ap (λ (c : Cell). c.0) word, all, is, kept.count);
      within = omega (arith, all, kept.within);
      home = λ k low high.
          let apart : k ≢ 0 = omega arith in
          let inside : k < length (set cs 0 (n, true)) = omega (arith, size, kept.within, high) in
          ap (λ (c : Cell). c.1) (get_or-append (set cs 0 (n, true)) ((0, false) ∷ []) (0, false) k inside ∙ get_or-set_other cs 0 k (n, true) (0, false) apart) ∙ kept.home k low high;
    }

pub entry_goes : (cs : List Cell) (log v : List CallEntry) (e : CallEntry) → IsKeptLog cs log → v ≡ log → length v + 2 < length cs
    → Goes IsKeptLog shown moved 0 (v, (nib may_write (length v + 2) 0, None)) (λ n. either (n == 0) 0 n) (AddsEntry (step 0 0 0 e) (v, (nib may_write (length v + 2) 0, None))) cs log
entry_goes cs log v e kept same within = (
  gives,
  e ∷ [],
  None,
  refl,
  rw (either_same (cell cs 0).0, same_word cs log kept) (kept_more cs log e (length v + 2) kept (ap (λ (l : List CallEntry). length l + 2) same) within),
  inl (refl, refl),
  ap (λ w. w ++ e ∷ []) (sym same),
)

pub entry_moves : (v : List CallEntry) (e : CallEntry)
    → Moves IsKeptLog shown moved 0 (v, (nib may_write (length v + 2) 0, None)) (λ n. either (n == 0) 0 n) (AddsEntry (step 0 0 0 e) (v, (nib may_write (length v + 2) 0, None)))
entry_moves v e cs log kept pre away =
    let there = away refl in
    (omega (arith, kept.within), kept.at_home, entry_goes cs log v e kept (seen_whole cs log v kept pre there.1) there.0)

pub cell_goes : (cs : List Cell) (log v : List CallEntry) (e : CallEntry) (old : ℕ) → IsKeptLog cs log → IsPrefix v log → (b : Bool) → ((cell cs 0).0 == old) ≡ b
    → Goes IsKeptLog shown moved 0 (v, (no_nib, None)) (λ n. either (n == old) (old + 1) n) (AddsCell (step 0 old (old + 1) e) (v, (no_nib, None))) cs log
cell_goes cs log v e old kept pre true is =
    let here : (cell cs 0).0 ≡ old = grind (arith, nat_tests) in
    let count : length cs ≡ old + 2 = omega (arith, kept.count) in
    (adds, [], None, tt, rw (is, append-nil log) (kept_wider cs log (old + 1) (omega arith) kept), inl (refl, refl), rw is (ap (λ (n : ℕ). nib may_make n 0) count))
cell_goes cs log v e old kept pre false is = (keeps, [], None, tt, rw (is, append-nil log, same_word cs log kept) kept, inl (refl, refl), rw is tt)

pub cell_moves : (v : List CallEntry) (e : CallEntry) (old : ℕ)
    → Moves IsKeptLog shown moved 0 (v, (no_nib, None)) (λ n. either (n == old) (old + 1) n) (AddsCell (step 0 old (old + 1) e) (v, (no_nib, None)))
cell_moves v e old cs log kept pre away = (omega (arith, kept.within), kept.at_home, cell_goes cs log v e old kept pre ((cell cs 0).0 == old) refl)
