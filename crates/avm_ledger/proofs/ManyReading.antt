-- Reading so many fields of a kind one after another.
use Rattle.std.proofs.Common.{◌≡◌, ℕ, zero, suc, ◌<◌, List, [], ◌∷◌, ◌++◌, Ok, refl, sym, ap, ◌∙◌, arith}
use Rattle.std.proofs.lemmas.List.{append-nil}
use Rattle.teal_value.specs.Answer.{Fails}
use Rattle.teal_value.specs.declared.failure.Failure.{Failure}
use Rattle.teal_value.specs.declared.failure.Failure.TheVariants as failure
use Rattle.teal_code.specs.Reader.{many_at}
use Rattle.avm_ledger.specs.FieldReader.{Front}
use Rattle.avm_ledger.proofs.FieldsBack.{then}
use Rattle.avm_ledger.proofs.RisingReading.{with_front, none_in_front, one_in_front, stopped}

-- the values so far and those of the rest are those that are meant
pub record ReadsOn {A F : Type 0} (one : List ℕ → Front F A) (so_far : List A) (left : ℕ) (rest : List ℕ) (meant : Front F (List A)) : Type 0 where
  pub same : with_front so_far (many_at one left rest) ≡ meant

-- before any value is read, what is meant is the reading of all of them
pub begins : {A F : Type 0} (one : List ℕ → Front F A) (now : List A) (count left : ℕ) (bytes : List ℕ) → now ≡ [] → left ≡ count → ReadsOn one now left bytes (many_at one count bytes)
begins one now count left bytes e f = record { same = rw (e, f) (none_in_front _) }

-- after one more value is read and appended, those so far and the rest still give what is meant
pub goes_on : {A F : Type 0} (one : List ℕ → Front F A) (so_far now : List A) (left n : ℕ) (rest next : List ℕ) (x : A) (meant : Front F (List A)) → ReadsOn one so_far left rest meant → one rest ≡ Ok (x, next) → now ≡ so_far ++ x ∷ [] → left ≡ suc n
    → ReadsOn one now n next meant
goes_on one so_far now left n rest next x meant r e pushed less_left = record {
  same =
      rw pushed (sym (one_in_front so_far x (many_at one n next))
      ∙ ap (with_front so_far) (sym (then _ _ _ _ e refl))
      ∙ ap (λ m. with_front so_far (many_at one m rest)) (sym less_left)
      ∙ r.same);
}

-- while any are left, a failure at the next value is the failure of the whole reading
pub no_more : {A F : Type 0} (one : List ℕ → Front F A) (so_far : List A) (left : ℕ) (rest : List ℕ) (d : Failure F) (meant : Front F (List A)) → ReadsOn one so_far left rest meant → Fails d (one rest) → 0 < left → Fails d meant
no_more one so_far left rest failure.Memory meant r e some = tt
no_more one so_far zero rest (failure.Fault f) meant r e some = absurd (omega arith)
no_more one so_far (suc n) rest (failure.Fault f) meant r e some = sym r.same ∙ ap (with_front so_far) (stopped (one rest) f _ e)

-- where none are left to read, the values so far are those that are meant
pub is_done : {A F : Type 0} (one : List ℕ → Front F A) (so_far : List A) (left : ℕ) (rest : List ℕ) (meant : Front F (List A)) → ReadsOn one so_far left rest meant → left ≡ 0 → meant ≡ Ok (so_far, rest)
is_done one so_far left rest meant r e = sym r.same ∙ ap (λ n. with_front so_far (many_at one n rest)) e ∙ ap (λ xs. Ok (xs, rest)) (append-nil so_far)
