-- Reading so many values one after another, from left to right.
use Rattle.std.proofs.Common.{◌≡◌, ℕ, zero, suc, ◌<◌, List, [], ◌∷◌, ◌++◌, Ok, Err, refl, sym, ap, ◌∙◌, append_assoc, arith}
use Rattle.std.proofs.lemmas.List.{append-nil}
use Rattle.teal_value.specs.declared.failure.Failure.{Failure}
use Rattle.teal_value.specs.declared.failure.Failure.TheVariants as failure
use Rattle.teal_value.specs.Answer.{◌>>=◌, Fails}
use Rattle.teal_code.specs.declared.decode.CodeFault.{CodeFault}
use Rattle.teal_code.specs.Reader.{Read, many_at}

-- values read, after those in front
abbrev pub with_front : {A : Type 0} → List A → Read (List A) → Read (List A)
with_front front r = r >>= λ xs. Ok (front ++ xs.0, xs.1)

-- the values so far and those of the rest are those that are meant
pub record ReadsOn {A : Type 0} (one : List ℕ → Read A) (so_far : List A) (left : ℕ) (rest : List ℕ) (meant : Read (List A)) : Type 0 where
  pub same : with_front so_far (many_at one left rest) ≡ meant

none_in_front : {A : Type 0} (r : Read (List A)) → with_front [] r ≡ r
none_in_front (Ok xs) = refl
none_in_front (Err e) = refl

regroup : {A : Type 0} (so_far : List A) (x : A) (r : Read (List A)) → with_front so_far (r >>= λ xs. Ok (x ∷ xs.0, xs.1)) ≡ with_front (so_far ++ x ∷ []) r
regroup so_far x (Ok xs) = ap (λ ys. Ok (ys, xs.1)) (sym (append_assoc so_far (x ∷ []) xs.0))
regroup so_far x (Err e) = refl

one_more : {A : Type 0} (one : List ℕ → Read A) (so_far : List A) (n : ℕ) (rest : List ℕ) (r : Read A) → one rest ≡ r → with_front so_far (many_at one (suc n) rest) ≡ with_front so_far (r >>= λ x. many_at one n x.1 >>= λ xs. Ok (x.0 ∷ xs.0, xs.1))
one_more one so_far n rest r e = rw e refl

pub begins : {A : Type 0} (one : List ℕ → Read A) (now : List A) (count left : ℕ) (bytes : List ℕ) → now ≡ [] → left ≡ count → ReadsOn one now left bytes (many_at one count bytes)
begins one now count left bytes e f = record { same = rw (e, f) (none_in_front _) }

pub goes_on : {A : Type 0} (one : List ℕ → Read A) (so_far now : List A) (left less : ℕ) (rest next : List ℕ) (x : A) (meant : Read (List A)) → ReadsOn one so_far left rest meant → one rest ≡ Ok (x, next) → now ≡ so_far ++ x ∷ [] → left ≡ suc less
    → ReadsOn one now less next meant
goes_on one so_far now left less rest next x meant r e pushed fewer = record {
  same =
      rw pushed (sym (regroup so_far x (many_at one less next)) ∙ sym (one_more one so_far less rest (Ok (x, next)) e) ∙ ap (λ n. with_front so_far (many_at one n rest)) (sym fewer) ∙ r.same);
}

pub stops : {A : Type 0} (one : List ℕ → Read A) (so_far : List A) (left : ℕ) (rest : List ℕ) (d : Failure CodeFault) (meant : Read (List A)) → ReadsOn one so_far left rest meant → Fails d (one rest) → 0 < left → Fails d meant
stops one so_far left rest failure.Memory meant r e some = tt
stops one so_far zero rest (failure.Fault f) meant r e some = absurd (omega arith)
stops one so_far (suc n) rest (failure.Fault f) meant r e some = sym r.same ∙ one_more one so_far n rest (Err f) e

pub is_done : {A : Type 0} (one : List ℕ → Read A) (so_far : List A) (left : ℕ) (rest : List ℕ) (meant : Read (List A)) → ReadsOn one so_far left rest meant → left ≡ 0 → meant ≡ Ok (so_far, rest)
is_done one so_far left rest meant r e = sym r.same ∙ ap (λ n. with_front so_far (many_at one n rest)) e ∙ ap (λ xs. Ok (xs, rest)) (append-nil so_far)
