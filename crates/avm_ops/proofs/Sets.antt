-- Opcodes and their codes, and sets of objects.
use Rattle.std.proofs.Common.{◌≡◌, ◌∙◌, ◌<◌, ◌+◌, ◌&&◌, ℕ, Bool, true, false, cond, ltb, List, [], ◌∷◌, Some, None, refl, sym, ap, subst, arith, inl, inr}
use Rattle.std.specs.Prelude.{find, ◌==◌}
use Rattle.std.proofs.Math.Nat.{eq-or-lt_of_le}
use Rattle.std.proofs.lemmas.Bool.{ltb-true}
use Rattle.teal_table.specs.declared.opcode.Opcode.{Opcode}
use Rattle.teal_table.specs.Table.{row_of, opcodes, code_of, opcode_at}
use Rattle.teal_table.proofs.Codes.{opcode_at-code_of}
use Rattle.avm_ops.specs.OpSets.{Slots, Has, IsOf, object_at}

the_same : (o p : Opcode) → Some o ≡ Some p → o ≡ p
the_same o p e = cc

-- no two opcodes have the same code
pub same_code : (o p : Opcode) → code_of o ≡ code_of p → o ≡ p
same_code o p e = the_same o p (sym (opcode_at-code_of o) ∙ ap opcode_at e ∙ opcode_at-code_of p)

-- a set has an opcode, where the object at its code has an opcode of that code
pub has_at : {O : Type 0} (opcode : O → Opcode) (slots : Slots O) (o : Opcode) (x : O) → object_at slots (code_of o) ≡ Some x → code_of (opcode x) ≡ code_of o → Has opcode slots o
has_at opcode slots o x e same = subst (IsOf opcode o) (sym e) (same_code (opcode x) o same)

-- ---- what holds of the opcodes up to a code

-- what holds of the opcodes below a code and of the one at it holds up to it
pub with_next : (P : Opcode → Type 0) (n : ℕ) → ((o : Opcode) → code_of o < n → P o) → ((o : Opcode) → code_of o ≡ n → P o) → (o : Opcode) → code_of o < n + 1 → P o
with_next P n before here o less = elim (eq-or-lt_of_le {n = code_of o} {m = n} (omega (arith, less))) [ inl same ↦ here o same | inr lower ↦ before o lower ]

-- what holds of the opcode at a code holds of every opcode with that code
pub at_opcode : (P : Opcode → Type 0) (n : ℕ) (p : Opcode) → opcode_at n ≡ Some p → P p → (o : Opcode) → code_of o ≡ n → P o
at_opcode P n p e holds o same = subst P (the_same p o (sym e ∙ ap opcode_at (sym same) ∙ opcode_at-code_of o)) holds

-- where no opcode has the code, anything holds of those that have it
pub at_no_opcode : (P : Opcode → Type 0) (n : ℕ) → opcode_at n ≡ None → (o : Opcode) → code_of o ≡ n → P o
at_no_opcode P n e o same = let none : None ≡ Some o = sym e ∙ ap opcode_at (sym same) ∙ opcode_at-code_of o in absurd cc

-- ---- codes are bytes

abbrev all_pass : (Opcode → Bool) → List Opcode → Bool
all_pass p [] = true
all_pass p (o ∷ os) = p o && all_pass p os

found_passes : (test p : Opcode → Bool) (os : List Opcode) (o : Opcode) → find test os ≡ Some o → all_pass p os ≡ true → p o ≡ true
found_passes test p [] o e all = absurd cc
found_passes test p (x ∷ xs) o e all = at_test (found_passes test p xs o) (test x) (p x) refl e all
  where
    at_test : (find test xs ≡ Some o → all_pass p xs ≡ true → p o ≡ true) → (b c : Bool) → p x ≡ c
        → cond b (Some x) (find test xs) ≡ Some o → (c && all_pass p xs) ≡ true → p o ≡ true
    at_test later true true passes is rest = ap p (sym (the_same x o is)) ∙ passes
    at_test later false true passes is rest = later is rest
    at_test later b false passes is rest = absurd cc

pub code_of-below : (o : Opcode) → code_of o < 256
unfolding row_of opcodes opcode_at
code_of-below o = ltb-true (code_of o) 256 (found_passes (λ k. code_of k == code_of o) (λ k. ltb (code_of k) 256) opcodes o (opcode_at-code_of o) refl)
