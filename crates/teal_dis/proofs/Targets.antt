-- The targets of a checked program's branches.
use Rattle.std.proofs.Common.{◌≡◌, ℕ, zero, suc, ◌+◌, ◌<◌, ◌≤◌, eqb, ltb, List, [], ◌∷◌, length, Option, Some, None, Ok, refl, ap, ◌∙◌, inl, inr, arith}
use Rattle.std.specs.List.{slice_get}
use Rattle.std.specs.Option.{option_map, ok_or}
use Rattle.teal_value.specs.Answer.{◌>>=◌}
use Rattle.teal_value.proofs.Binding.{bind_ok, chosen}
use Rattle.teal_code.specs.declared.instr.Immediates.{Immediates}
use Rattle.teal_code.specs.declared.instr.Immediates.TheVariants as is
use Rattle.teal_check.specs.declared.fault.CheckFault.{CheckFault}
use Rattle.teal_check.specs.declared.fault.CheckFault.TheVariants as fault
use Rattle.teal_check.specs.declared.program.PlacedInstr.{PlacedInstr}
use Rattle.teal_check.specs.WellFormed.{WellFormed, places, first_index, number_of_place, resolved_target, immediates_target, target_of, with_targets, checked}
use Rattle.teal_check.proofs.CheckedPrograms.{is_checked, length-places}

found_within : (x n : ℕ) (xs : List ℕ) → first_index x xs ≡ Some n → n < length xs
found_within x n [] e = absurd cc
found_within x n (y ∷ ys) e = elim (chosen (eqb x y) _ _ _ e) [
  | inl (here, at) ↦ let same : 0 ≡ n = cc in omega arith
  | inr (other, more) ↦ later (first_index x ys) (λ k found. found_within x k ys found) more
]
  where
    later : (o : Option ℕ) → ((k : ℕ) → o ≡ Some k → k < length ys) → option_map suc o ≡ Some n → n < suc (length ys)
    later None within e = absurd cc
    later (Some k) within e = let same : suc k ≡ n = cc in let lt = within k refl in omega arith

number_within : (starts : List ℕ) (end target n : ℕ) → number_of_place starts end target ≡ Some n → n ≤ length starts
number_within starts end target n e = elim (chosen (eqb target end) _ _ _ e) [
  | inl (at, here) ↦ let same : length starts ≡ n = cc in omega arith
  | inr (before, more) ↦ let lt = found_within target n starts more in omega arith
]

known : (o : Option ℕ) (d : CheckFault) (t : ℕ) → (ok_or o d >>= λ n. Ok (Some n)) ≡ Ok (Some t) → o ≡ Some t
known None d t e = absurd cc
known (Some n) d t e = let same : n ≡ t = cc in ap (λ k. Some k) same

branch_within : (starts : List ℕ) (end place next offset t : ℕ) → resolved_target starts end place next offset ≡ Ok (Some t) → t ≤ length starts
branch_within starts end place next offset t e = elim (chosen (ltb 32767 offset) _ _ _ e) [
  | inl (back, bad) ↦ absurd cc
  | inr (forward, more) ↦ elim (chosen (ltb end (next + offset)) _ _ _ more) [
    | inl (past, bad) ↦ absurd cc
    | inr (within, found) ↦ number_within starts end (next + offset) t (known (number_of_place starts end (next + offset)) (fault.NotAligned place) t found)
  ]
]

immediates_within : (starts : List ℕ) (end place next : ℕ) (i : Immediates) (t : ℕ) → immediates_target starts end place next i ≡ Ok (Some t) → t ≤ length starts
immediates_within starts end place next (is.Offset n) t e = branch_within starts end place next n t e
immediates_within starts end place next _ t e = absurd cc

front_within : (starts : List ℕ) (end : ℕ) (p q : PlacedInstr) (target : Option ℕ) (t : ℕ) → target_of starts end p ≡ Ok target → record p { target = target } ≡ q → q.target ≡ Some t → t ≤ length starts
front_within starts end p q target t first one is = immediates_within starts end p.place p.next p.instr.immediates t (first ∙ ap (λ o. Ok o) (ap (λ (x : PlacedInstr). x.target) one ∙ is))

in_list : (starts : List ℕ) (end : ℕ) (ps qs : List PlacedInstr) → with_targets starts end ps ≡ Ok qs → (k : ℕ) (q : PlacedInstr) → slice_get qs k ≡ Some q → (t : ℕ) → q.target ≡ Some t → t ≤ length starts
unfolding with_targets
in_list starts end [] qs e k q at t is =
    let none : [] ≡ qs = cc in
    let nothing : None ≡ Some q = ap (λ (xs : List PlacedInstr). slice_get xs k) none ∙ at in absurd cc
in_list starts end (p ∷ ps) qs e zero q at t is =
    let (target, first, others) = bind_ok (target_of starts end p) _ _ e in
    let (rs, rest, last) = bind_ok (with_targets starts end ps) _ _ others in
    let same : record p { target = target } ∷ rs ≡ qs = cc in
    let found : Some (record p { target = target }) ≡ Some q = ap (λ (xs : List PlacedInstr). slice_get xs zero) same ∙ at in
    let one : record p { target = target } ≡ q = cc in
    front_within starts end p q target t first one is
in_list starts end (p ∷ ps) qs e (suc k) q at t is =
    let (target, first, others) = bind_ok (target_of starts end p) _ _ e in
    let (rs, rest, last) = bind_ok (with_targets starts end ps) _ _ others in
    let same : record p { target = target } ∷ rs ≡ qs = cc in
    in_list starts end ps rs rest k q (ap (λ (xs : List PlacedInstr). slice_get xs (suc k)) same ∙ at) t is

-- a branch of a checked program leads to an instruction or to the end
pub targets_within : (bytes : List ℕ) (w : WellFormed) → checked bytes ≡ Ok w → (k : ℕ) (p : PlacedInstr) → slice_get w.placed k ≡ Some p → (t : ℕ) → p.target ≡ Some t → t ≤ length w.placed
targets_within bytes w e k p at t is =
    let c = is_checked bytes w e in
    let le = in_list (places c.bare) (length bytes) c.bare w.placed c.targets k p at t is in
    omega (arith, le, length-places c.bare, c.same_count)
