-- Marking the targets, and numbering them.
use Rattle.std.proofs.Common.{◌≡◌, ◌≢◌, ℕ, zero, suc, ◌+◌, ◌<◌, ◌≤◌, Bool, true, false, ◌||◌, cond, eqb, List, [], ◌∷◌, ◌++◌, length, take, get_or, set, replicate, length-append, Option, Some, None, refl, sym, ap, ◌∙◌, arith}
use Rattle.std.specs.List.{slice_get}
use Rattle.std.proofs.Math.ListN.{length-set, length-replicate}
use Rattle.std.proofs.lemmas.List.{get_or-replicate, get_or-set_same, get_or-set_other, get_or_append_left, take_all}
use Rattle.std.proofs.lemmas.List.Folds.{list_any_more}
use Rattle.std.proofs.lemmas.Option.{slice_get_within, get_or_from_slice_get}
use Rattle.std.proofs.Math.Seq.{get_or-append_seam}
use Rattle.std.proofs.lemmas.Bool.Decides.{nat_tests}
use Rattle.std.proofs.lemmas.Bool.{or_right}
use Rattle.teal_check.specs.declared.program.PlacedInstr.{PlacedInstr}
use Rattle.teal_dis.specs.Listing.{leads_to, is_target, targets_before}
use Rattle.teal_dis.specs.Shown.{AreMarks, AreLabels, label_before}

-- the marks of the targets of the first instructions
pub record MarksOn (placed : List PlacedInstr) (marks : List Bool) (number : ℕ) : Type 0 where
  pub count : length marks ≡ length placed + 1
  pub within : number ≤ length placed
  pub each : (n : ℕ) → n ≤ length placed → get_or marks n false ≡ is_target (take number placed) n

pub no_marks : (placed : List PlacedInstr) (marks : List Bool) → marks ≡ replicate (length placed + 1) false → MarksOn placed marks 0
no_marks placed marks e = rw e (record {
  count = length-replicate (length placed + 1) false;
  within = omega arith;
  each = λ n le. get_or-replicate (length placed + 1) n false false (omega arith);
})

goes_on : (placed : List PlacedInstr) (marks now : List Bool) (number : ℕ) (p : PlacedInstr) → MarksOn placed marks number → slice_get placed number ≡ Some p → length now ≡ length marks
    → ((n : ℕ) → n ≤ length placed → get_or now n false ≡ (get_or marks n false || leads_to n p)) → MarksOn placed now (number + 1)
goes_on placed marks now number p m at len more =
    let lt = slice_get_within placed number p at in
    record {
      count = len ∙ m.count;
      within = omega arith;
      each = λ n le. more n le ∙ ap (λ b. b || leads_to n p) (m.each n le)
          ∙ sym (list_any_more (leads_to n) placed number p lt ∙ ap (λ q. is_target (take number placed) n || leads_to n q) (get_or_from_slice_get placed number p p at));
    }

or_false : (b : Bool) → b || false ≡ b
or_false true = refl
or_false false = refl

no_target : (n : ℕ) (p : PlacedInstr) → p.target ≡ None → leads_to n p ≡ false
no_target n p e = rw e refl

to_target : (n target : ℕ) (p : PlacedInstr) → p.target ≡ Some target → leads_to n p ≡ eqb target n
to_target n target p e = rw e refl

-- an instruction without a target adds no mark
pub no_branch : (placed : List PlacedInstr) (marks : List Bool) (number : ℕ) (p : PlacedInstr) → MarksOn placed marks number → slice_get placed number ≡ Some p → p.target ≡ None → MarksOn placed marks (number + 1)
no_branch placed marks number p m at e = goes_on placed marks marks number p m at refl (λ n le. sym (or_false (get_or marks n false)) ∙ ap (λ b. get_or marks n false || b) (sym (no_target n p e)))

-- a target that is past the marks adds none
pub far_branch : (placed : List PlacedInstr) (marks : List Bool) (number target : ℕ) (p : PlacedInstr) → MarksOn placed marks number → slice_get placed number ≡ Some p → p.target ≡ Some target → length marks ≤ target → MarksOn placed marks (number + 1)
far_branch placed marks number target p m at e far = goes_on placed marks marks number p m at refl (λ n le.
    let differs : eqb target n ≡ false = grind (arith, nat_tests, m.count) in
    sym (or_false (get_or marks n false)) ∙ ap (λ b. get_or marks n false || b) (sym (to_target n target p e ∙ differs)))

pub marks_target : (placed : List PlacedInstr) (marks now : List Bool) (number target : ℕ) (p : PlacedInstr) → MarksOn placed marks number → slice_get placed number ≡ Some p → p.target ≡ Some target → target < length marks
    → now ≡ set marks target true → MarksOn placed now (number + 1)
marks_target placed marks now number target p m at e near written = goes_on placed marks now number p m at (ap length written ∙ length-set marks target true) (λ n le.
    ap (λ x. get_or x n false) written ∙ marked marks target n near ∙ ap (λ b. get_or marks n false || b) (sym (to_target n target p e)))
  where
    marked : (marks : List Bool) (target n : ℕ) → target < length marks → get_or (set marks target true) n false ≡ (get_or marks n false || eqb target n)
    marked marks target n near = elim (eqb target n) as (λ b. b ≡ eqb target n → get_or (set marks target true) n false ≡ (get_or marks n false || b)) [
      | true ↦ λ h. let same : target ≡ n = grind (arith, nat_tests) in rw (← same) (get_or-set_same marks target true false near ∙ sym (or_right (get_or marks target false) true refl))
      | false ↦ λ h. let differ : n ≢ target = λ s. grind (arith, nat_tests) in get_or-set_other marks target n true false differ ∙ sym (or_false (get_or marks n false))
    ] refl

-- where no element stands, the list has ended
pub past : {A : Type 0} (xs : List A) (i : ℕ) → slice_get xs i ≡ None → length xs ≤ i
past [] i e = omega arith
past (x ∷ xs) zero e = absurd cc
past (x ∷ xs) (suc i) e = let more = past xs i e in omega arith

pub all_marks : (placed : List PlacedInstr) (marks : List Bool) (number : ℕ) → MarksOn placed marks number → length placed ≤ number → AreMarks placed marks
all_marks placed marks number m end =
    let all = take_all number placed end in
    record { count = m.count; each = λ n le. m.each n le ∙ ap (λ ps. is_target ps n) all }

-- the numbers of the labels of the first instructions
pub record LabelsOn (placed : List PlacedInstr) (labels : List (Option ℕ)) (number most : ℕ) : Type 0 where
  pub count : length labels ≡ number
  pub last : most ≡ targets_before placed number
  pub few : most ≤ number
  pub each : (n : ℕ) → n < number → get_or labels n None ≡ label_before placed n

pub no_labels : (placed : List PlacedInstr) (labels : List (Option ℕ)) → labels ≡ [] → LabelsOn placed labels 0 0
unfolding targets_before
no_labels placed labels e = rw e (record { count = refl; last = refl; few = omega arith; each = λ n lt. absurd (omega arith) })

-- an instruction that is a target adds one to the targets before the next
pub one_more : (placed : List PlacedInstr) (n : ℕ) → targets_before placed (n + 1) ≡ targets_before placed n + cond (is_target placed n) 1 0
unfolding targets_before
one_more placed n = let next : n + 1 ≡ suc n = omega arith in rw next refl

next_label : (placed : List PlacedInstr) (labels now : List (Option ℕ)) (number last after : ℕ) (label : Option ℕ) → LabelsOn placed labels number last → after ≡ last + cond (is_target placed number) 1 0 → after ≤ last + 1
    → label ≡ label_before placed number → now ≡ labels ++ label ∷ [] → LabelsOn placed now (number + 1) after
next_label placed labels now number last after label l counted most is pushed =
    rw pushed (record {
      count = length-append labels (label ∷ []) ∙ ap (λ n. n + 1) l.count;
      last = counted ∙ ap (λ n. n + cond (is_target placed number) 1 0) l.last ∙ sym (one_more placed number);
      few = omega (arith, l.few, most);
      each = λ n lt. elim (eqb n number) as (λ b. b ≡ eqb n number → get_or (labels ++ label ∷ []) n None ≡ label_before placed n) [
        | true ↦ λ h. let same : length labels ≡ n = grind (arith, nat_tests, l.count) in let at : number ≡ n = omega (arith, l.count) in rw (← same) (get_or-append_seam labels label [] None) ∙ is ∙ ap (label_before placed) at
        | false ↦ λ h. let below : n < number = grind (arith, nat_tests) in get_or_append_left labels (label ∷ []) None n (omega (arith, l.count)) ∙ l.each n below
      ] refl;
    })

pub mark_is : (placed : List PlacedInstr) (marks : List Bool) (number : ℕ) (b : Bool) → AreMarks placed marks → number < length marks → get_or marks number false ≡ b → is_target placed number ≡ b
mark_is placed marks number b m lt at = sym (m.each number (omega (arith, m.count))) ∙ at

pub labels_target : (placed : List PlacedInstr) (marks : List Bool) (labels now : List (Option ℕ)) (number last after : ℕ) → AreMarks placed marks → LabelsOn placed labels number last → number < length marks → get_or marks number false ≡ true
    → after ≡ last + 1 → now ≡ labels ++ Some after ∷ [] → LabelsOn placed now (number + 1) after
labels_target placed marks labels now number last after m l lt at up pushed =
    let target : is_target placed number ≡ true = mark_is placed marks number true m lt at in
    next_label placed labels now number last after (Some after) l (rw target up) (omega arith) (rw target (ap (λ n. Some n) (up ∙ ap (λ n. n + 1) l.last))) pushed

-- an instruction that is no target has no label
pub skips : (placed : List PlacedInstr) (marks : List Bool) (labels now : List (Option ℕ)) (number last : ℕ) → AreMarks placed marks → LabelsOn placed labels number last → number < length marks → get_or marks number false ≡ false
    → now ≡ labels ++ None ∷ [] → LabelsOn placed now (number + 1) last
skips placed marks labels now number last m l lt at pushed =
    let target : is_target placed number ≡ false = mark_is placed marks number false m lt at in
    next_label placed labels now number last last None l (rw target (omega arith)) (omega arith) (rw target refl) pushed

pub all_labels : (placed : List PlacedInstr) (marks : List Bool) (labels : List (Option ℕ)) (number last : ℕ) → AreMarks placed marks → LabelsOn placed labels number last → number ≡ length marks → AreLabels placed labels
all_labels placed marks labels number last m l end = record {
  count = l.count ∙ end ∙ m.count;
  each = λ n le. l.each n (omega (arith, m.count));
}
