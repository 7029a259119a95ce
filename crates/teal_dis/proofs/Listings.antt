-- Listing instruction by instruction.
use Rattle.std.proofs.Common.{◌≡◌, ℕ, ◌+◌, ◌≤◌, Bool, true, false, cond, eqb, List, [], ◌∷◌, ◌++◌, length, drop, get_or, codes, Option, Some, None, refl, sym, ap, ◌∙◌, append_assoc, arith}
use Rattle.std.specs.List.{slice_get}
use Rattle.std.proofs.lemmas.List.{drop_more, drop_all, get_or_default}
use Rattle.std.proofs.lemmas.Bool.Decides.{nat_tests}
use Rattle.std.proofs.lemmas.List.Folds.{list_any_at}
use Rattle.std.proofs.lemmas.Option.{slice_get_within, get_or_from_slice_get}
use Rattle.teal_check.specs.declared.program.PlacedInstr.{PlacedInstr}
use Rattle.teal_check.specs.WellFormed.{WellFormed}
use Rattle.teal_text.specs.PlainWords.{text_of_lines}
use Rattle.teal_dis.specs.Listing.{Word, leads_to, is_target, targets_before, label_of, label_line, pragma_line, target_word, words_of, instruction_line, listing_from, listing}
use Rattle.teal_dis.specs.Shown.{AreLabels, label_before, label, label_in, lines_of_label}
use Rattle.teal_dis.proofs.Labelling.{past}

-- the text so far, and the lines of the instructions that are left, are the listing
pub record ListedOn (program : WellFormed) (text : List ℕ) (number : ℕ) : Type 0 where
  pub within : number ≤ length program.placed
  pub same : text ++ text_of_lines (listing_from program.placed number (drop number program.placed)) ≡ listing program

pub text-append : (a b : List (List Word)) → text_of_lines (a ++ b) ≡ text_of_lines a ++ text_of_lines b
text-append [] b = refl
text-append (words ∷ lines) b = rw (text-append lines b) (simp append_assoc)

label_line_of : (placed : List PlacedInstr) (n : ℕ) → lines_of_label (label_before placed n) ≡ label_line placed n
label_line_of placed n = by_test (is_target placed n)
  where
    by_test : (b : Bool) → lines_of_label (cond b (Some (targets_before placed n + 1)) None) ≡ cond b (((label_of placed n ++ codes ":") ∷ []) ∷ []) []
    by_test true = refl
    by_test false = refl

-- the line of a label by its number is the line before the instruction
pub label_there : (placed : List PlacedInstr) (labels : List (Option ℕ)) (n : ℕ) (label : Option ℕ) → AreLabels placed labels → n ≤ length placed → label ≡ get_or labels n label → lines_of_label label ≡ label_line placed n
label_there placed labels n found l le at =
    ap lines_of_label (at ∙ get_or_default labels n found None (omega (arith, l.count)) ∙ l.each n le) ∙ label_line_of placed n

-- the label of a branch's target
label_word : (placed : List PlacedInstr) (n : ℕ) → is_target placed n ≡ true → label (label_before placed n) ≡ label_of placed n
label_word placed n e = rw e refl

same_number : (n : ℕ) → eqb n n ≡ true
same_number n = grind (arith, nat_tests)

leads_there : (target : ℕ) (p : PlacedInstr) → p.target ≡ Some target → leads_to target p ≡ true
leads_there target p e = rw e (same_number target)

target_there : (placed : List PlacedInstr) (labels : List (Option ℕ)) (number : ℕ) (p : PlacedInstr) (target : Option ℕ) → AreLabels placed labels → slice_get placed number ≡ Some p → p.target ≡ target
    → ((t : ℕ) → target ≡ Some t → t ≤ length placed) → label_in labels target ≡ target_word placed target
target_there placed labels number p None l at e within = refl
target_there placed labels number p (Some t) l at e within =
    let lt = slice_get_within placed number p at in
    let is : is_target placed t ≡ true = list_any_at (leads_to t) placed number p lt (ap (leads_to t) (get_or_from_slice_get placed number p p at) ∙ leads_there t p e) in
    ap label (l.each t (within t refl)) ∙ label_word placed t is

-- the instructions that are left begin with the next one
front : (placed : List PlacedInstr) (number : ℕ) (p : PlacedInstr) → slice_get placed number ≡ Some p → drop number placed ≡ p ∷ drop (number + 1) placed
front placed number p at = drop_more placed number p (slice_get_within placed number p at) ∙ ap (λ q. q ∷ drop (number + 1) placed) (get_or_from_slice_get placed number p p at)

one_line : (words : List Word) (rest : List (List Word)) → text_of_lines (words ∷ rest) ≡ text_of_lines (words ∷ []) ++ text_of_lines rest
one_line words rest = text-append (words ∷ []) rest

next_text : (placed : List PlacedInstr) (number : ℕ) (p : PlacedInstr) (text : List ℕ) → slice_get placed number ≡ Some p
    → ((text ++ text_of_lines (label_line placed number)) ++ text_of_lines (instruction_line placed p ∷ [])) ++ text_of_lines (listing_from placed (number + 1) (drop (number + 1) placed))
    ≡ text ++ text_of_lines (listing_from placed number (drop number placed))
next_text placed number p text at =
    let rest = listing_from placed (number + 1) (drop (number + 1) placed) in
    let line = instruction_line placed p in
    let first = label_line placed number in
    let lines : text_of_lines (listing_from placed number (drop number placed)) ≡ text_of_lines (first ++ line ∷ rest) = ap (λ ps. text_of_lines (listing_from placed number ps)) (front placed number p at) in
    four text (text_of_lines first) (text_of_lines (line ∷ [])) (text_of_lines rest)
    ∙ ap (λ x. text ++ x) (ap (λ x. text_of_lines first ++ x) (sym (one_line line rest)) ∙ sym (text-append first (line ∷ rest)) ∙ sym lines)
  where
    four : (a b c d : List ℕ) → ((a ++ b) ++ c) ++ d ≡ a ++ (b ++ (c ++ d))
    four a b c d = simp append_assoc

-- the next instruction is written, behind the line of its label
pub goes_on : (program : WellFormed) (labels : List (Option ℕ)) (text labelled now : List ℕ) (number : ℕ) (p : PlacedInstr) (label : Option ℕ) → ListedOn program text number → AreLabels program.placed labels → slice_get program.placed number ≡ Some p
    → ((t : ℕ) → p.target ≡ Some t → t ≤ length program.placed) → label ≡ get_or labels number label → labelled ≡ text ++ text_of_lines (lines_of_label label)
    → now ≡ labelled ++ text_of_lines (words_of (label_in labels p.target) p.instr ∷ []) → ListedOn program now (number + 1)
goes_on program labels text labelled now number p label on l at within is first line =
    let placed = program.placed in
    let lt = slice_get_within placed number p at in
    let labelled-is : labelled ≡ text ++ text_of_lines (label_line placed number) = first ∙ ap (λ ls. text ++ text_of_lines ls) (label_there placed labels number label l on.within is) in
    let now-is : now ≡ (text ++ text_of_lines (label_line placed number)) ++ text_of_lines (instruction_line placed p ∷ []) =
    line ∙ ap (λ x. x ++ text_of_lines (words_of (label_in labels p.target) p.instr ∷ [])) labelled-is
    ∙ ap (λ w. (text ++ text_of_lines (label_line placed number)) ++ text_of_lines (words_of w p.instr ∷ [])) (target_there placed labels number p p.target l at refl within) in
    record {
      within = omega arith;
      same = ap (λ x. x ++ text_of_lines (listing_from placed (number + 1) (drop (number + 1) placed))) now-is ∙ next_text placed number p text at ∙ on.same;
    }

-- the line of the version stands first
pub begins : (program : WellFormed) (text : List ℕ) → text ≡ text_of_lines (pragma_line program.version ∷ []) → ListedOn program text 0
begins program text e = record {
  within = omega arith;
  same = ap (λ x. x ++ text_of_lines (listing_from program.placed 0 program.placed)) e ∙ sym (one_line (pragma_line program.version) (listing_from program.placed 0 program.placed));
}

-- behind the last instruction, the label of the end completes the listing
pub is_done : (program : WellFormed) (labels : List (Option ℕ)) (text now : List ℕ) (number : ℕ) (label : Option ℕ) → ListedOn program text number → AreLabels program.placed labels → slice_get program.placed number ≡ None
    → label ≡ get_or labels number label → now ≡ text ++ text_of_lines (lines_of_label label) → now ≡ listing program
is_done program labels text now number label on l at is pushed =
    let placed = program.placed in
    let none : drop number placed ≡ [] = drop_all number placed (past placed number at) in
    pushed ∙ ap (λ ls. text ++ text_of_lines ls) (label_there placed labels number label l on.within is) ∙ ap (λ ps. text ++ text_of_lines (listing_from placed number ps)) (sym none) ∙ on.same
