-- Counting the lines of a listing.
use Rattle.std.proofs.Common.{◌≡◌, ℕ, suc, ◌+◌, ◌*◌, ◌<◌, ◌≤◌, Bool, true, false, cond, eqb, List, [], ◌∷◌, ◌++◌, length, get_or, length-append, refl, sym, ap, ◌∙◌, arith}
use Rattle.std.proofs.lemmas.List.{get_or_append_left}
use Rattle.std.proofs.Math.Seq.{get_or-append_seam}
use Rattle.std.proofs.lemmas.Bool.Decides.{nat_tests}
use Rattle.teal_check.specs.declared.program.PlacedInstr.{PlacedInstr}
use Rattle.teal_dis.specs.Listing.{is_target, line_number, targets_before}
use Rattle.teal_dis.specs.Shown.{AreLineNumbers, AreMarks}
use Rattle.teal_dis.proofs.Labelling.{mark_is, one_more}

-- the lines of the first instructions, and how many lines stand before the next one and its label
pub record NumbersOn (placed : List PlacedInstr) (numbers : List ℕ) (number lines : ℕ) : Type 0 where
  pub count : length numbers ≡ number
  pub before : lines ≡ 1 + number + targets_before placed number
  pub few : lines ≤ 1 + 2 * number
  pub each : (n : ℕ) → n < number → get_or numbers n 0 ≡ line_number placed n

pub no_numbers : (placed : List PlacedInstr) (numbers : List ℕ) → numbers ≡ [] → NumbersOn placed numbers 0 1
unfolding targets_before
no_numbers placed numbers e = rw e (record { count = refl; before = refl; few = omega arith; each = λ n lt. absurd (omega arith) })

next_number : (placed : List PlacedInstr) (numbers now : List ℕ) (number lines here : ℕ) → NumbersOn placed numbers number lines → here ≡ lines + cond (is_target placed number) 1 0 → here ≤ lines + 1
    → now ≡ numbers ++ here ∷ [] → NumbersOn placed now (number + 1) (here + 1)
next_number placed numbers now number lines here l counted most pushed =
    let more = one_more placed number in
    let is : here ≡ line_number placed number = omega (arith, counted, l.before, more) in
    rw pushed (record {
      count = length-append numbers (here ∷ []) ∙ ap (λ n. n + 1) l.count;
      before = omega (arith, is);
      few = omega (arith, l.few, most);
      each = λ n lt. elim (eqb n number) as (λ b. b ≡ eqb n number → get_or (numbers ++ here ∷ []) n 0 ≡ line_number placed n) [
        | true ↦ λ h. let same : length numbers ≡ n = grind (arith, nat_tests, l.count) in let at : number ≡ n = omega (arith, l.count) in rw (← same) (get_or-append_seam numbers here [] 0) ∙ is ∙ ap (line_number placed) at
        | false ↦ λ h. let below : n < number = grind (arith, nat_tests) in get_or_append_left numbers (here ∷ []) 0 n (omega (arith, l.count)) ∙ l.each n below
      ] refl;
    })

-- a label stands before the instruction
pub behind_label : (placed : List PlacedInstr) (marks : List Bool) (numbers now : List ℕ) (number lines here : ℕ) → AreMarks placed marks → NumbersOn placed numbers number lines → number < length marks → get_or marks number false ≡ true
    → here ≡ lines + 1 → now ≡ numbers ++ here ∷ [] → NumbersOn placed now (number + 1) (here + 1)
behind_label placed marks numbers now number lines here m l lt at up pushed =
    let target : is_target placed number ≡ true = mark_is placed marks number true m lt at in
    next_number placed numbers now number lines here l (rw target up) (omega arith) pushed

-- an instruction without a label before it takes one line
pub without_label : (placed : List PlacedInstr) (marks : List Bool) (numbers now : List ℕ) (number lines : ℕ) → AreMarks placed marks → NumbersOn placed numbers number lines → number < length marks → get_or marks number false ≡ false
    → now ≡ numbers ++ lines ∷ [] → NumbersOn placed now (number + 1) (lines + 1)
without_label placed marks numbers now number lines m l lt at pushed =
    let target : is_target placed number ≡ false = mark_is placed marks number false m lt at in
    next_number placed numbers now number lines lines l (rw target (omega arith)) (omega arith) pushed

pub all_numbers : (placed : List PlacedInstr) (marks : List Bool) (numbers : List ℕ) (number lines : ℕ) → AreMarks placed marks → NumbersOn placed numbers number lines → number ≡ length marks → AreLineNumbers placed numbers
all_numbers placed marks numbers number lines m l end = record {
  count = l.count ∙ end ∙ m.count;
  each = λ n le. l.each n (omega (arith, m.count));
}
