-- An opcode is found by its code.
use Rattle.std.proofs.Common.{◌≡◌, ℕ, Bool, true, false, cond, List, [], ◌∷◌, Option, Some, None, refl, sym, ap, ◌∙◌}
use Rattle.std.specs.Prelude.{find, IfSome, ◌==◌}
use Rattle.std.proofs.lemmas.Bool.{eqb-true}
use Rattle.teal_table.specs.declared.opcode.Opcode.{Opcode}
use Rattle.teal_table.specs.declared.opcode.Opcode.TheVariants as op
use Rattle.teal_table.specs.Table.{row_of, opcodes, code_of, opcode_at}

pub opcode_at-code_of : (o : Opcode) → opcode_at (code_of o) ≡ Some o
unfolding row_of opcodes opcode_at
opcode_at-code_of op.Err = refl
opcode_at-code_of _ = refl

pub opcode_of-row : (o : Opcode) → (row_of o).opcode ≡ o
unfolding row_of
opcode_of-row op.Err = refl
opcode_of-row _ = refl

-- what is found passes
pub find_passes : {A : Type 0} (p : A → Bool) (xs : List A) (x : A) → find p xs ≡ Some x → p x ≡ true
find_passes p [] x e = absurd cc
find_passes p (y ∷ ys) x e = at_test (find_passes p ys x) (p y) refl e
  where
    at_test : (find p ys ≡ Some x → p x ≡ true) → (b : Bool) → p y ≡ b → cond b (Some y) (find p ys) ≡ Some x → p x ≡ true
    at_test later true passes is = let same : y ≡ x = cc in ap p (sym same) ∙ passes
    at_test later false fails is = later is

pub code_of-opcode_at : (code : ℕ) (o : Opcode) → opcode_at code ≡ Some o → code_of o ≡ code
unfolding opcode_at
code_of-opcode_at code o e = eqb-true (code_of o) code (find_passes (λ k. code_of k == code) opcodes o e)

-- what has the code, and is every opcode that has it, is the opcode of the code
pub is_opcode_at : (code : ℕ) (found : Option Opcode) → IfSome found (λ o. code_of o ≡ code) → ((o : Opcode) → code_of o ≡ code → found ≡ Some o) → found ≡ opcode_at code
is_opcode_at code (Some o) has all = sym (ap opcode_at (sym has) ∙ opcode_at-code_of o)
is_opcode_at code None has all = at_answer (opcode_at code) refl
  where
    at_answer : (r : Option Opcode) → opcode_at code ≡ r → None ≡ r
    at_answer None e = refl
    at_answer (Some o) e = all o (code_of-opcode_at code o e)
