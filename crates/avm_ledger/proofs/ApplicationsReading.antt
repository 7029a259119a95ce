-- Reading applications one after another.
use Rattle.std.proofs.Common.{◌≡◌, ℕ, zero, suc, ◌<◌, List, [], ◌∷◌, ◌++◌, Ok, refl, sym, ap, ◌∙◌, arith}
use Rattle.std.proofs.lemmas.List.{append-nil}
use Rattle.teal_value.specs.Answer.{◌>>=◌, Fails}
use Rattle.teal_value.specs.declared.failure.Failure.{Failure}
use Rattle.teal_value.specs.declared.failure.Failure.TheVariants as failure
use Rattle.avm_ledger.specs.declared.ledger_fault.LedgerFault.{LedgerFault}
use Rattle.avm_ledger.specs.declared.application.StoredApplication.{StoredApplication}
use Rattle.avm_ledger.specs.FieldReader.{Front}
use Rattle.avm_ledger.specs.LedgerReader.{id_between, stored_application_at, applications_at}
use Rattle.avm_ledger.proofs.FieldsBack.{then}
use Rattle.avm_ledger.proofs.RisingReading.{with_front, one_in_front, stopped}

-- the applications so far and those of the rest are those that are meant
pub record ReadsOn (apps : List (ℕ × StoredApplication)) (before next : ℕ) (left : ℕ) (rest : List ℕ) (meant : Front LedgerFault (List (ℕ × StoredApplication))) : Type 0 where
  pub same : with_front apps (applications_at left before next rest) ≡ meant

one_more : (before next n : ℕ) (rest : List ℕ) (id : ℕ) (behind : List ℕ) (app : StoredApplication) (after : List ℕ) → id_between before next rest ≡ Ok (id, behind) → stored_application_at behind ≡ Ok (app, after)
    → applications_at (suc n) before next rest ≡ (applications_at n id next after >>= λ apps. Ok ((id, app) ∷ apps.0, apps.1))
one_more before next n rest id behind app after ei ea = then _ _ _ _ ei (then _ _ _ _ ea refl)

-- after one more application is read, those so far and the rest still give what is meant
pub goes_on : (apps now : List (ℕ × StoredApplication)) (before next left n : ℕ) (rest : List ℕ) (id : ℕ) (behind : List ℕ) (app : StoredApplication) (after : List ℕ) (meant : Front LedgerFault (List (ℕ × StoredApplication)))
    → ReadsOn apps before next left rest meant → id_between before next rest ≡ Ok (id, behind) → stored_application_at behind ≡ Ok (app, after) → now ≡ apps ++ (id, app) ∷ [] → left ≡ suc n
    → ReadsOn now id next n after meant
goes_on apps now before next left n rest id behind app after meant r ei ea pushed less_left =
    record {
      same =
          rw pushed (sym (one_in_front apps (id, app) (applications_at n id next after))
          ∙ ap (with_front apps) (sym (one_more before next n rest id behind app after ei ea))
          ∙ ap (λ m. with_front apps (applications_at m before next rest)) (sym less_left)
          ∙ r.same);
    }

-- while any are left, a failure at the next id is the failure of the whole reading
pub no_id : (apps : List (ℕ × StoredApplication)) (before next left : ℕ) (rest : List ℕ) (d : Failure LedgerFault) (meant : Front LedgerFault (List (ℕ × StoredApplication)))
    → ReadsOn apps before next left rest meant → Fails d (id_between before next rest) → 0 < left → Fails d meant
no_id apps before next left rest failure.Memory meant r e some = tt
no_id apps before next zero rest (failure.Fault f) meant r e some = absurd (omega arith)
no_id apps before next (suc n) rest (failure.Fault f) meant r e some = sym r.same ∙ ap (with_front apps) (stopped (id_between before next rest) f _ e)

pub no_application : (apps : List (ℕ × StoredApplication)) (before next left : ℕ) (rest : List ℕ) (id : ℕ) (behind : List ℕ) (d : Failure LedgerFault) (meant : Front LedgerFault (List (ℕ × StoredApplication)))
    → ReadsOn apps before next left rest meant → id_between before next rest ≡ Ok (id, behind) → Fails d (stored_application_at behind) → 0 < left → Fails d meant
no_application apps before next left rest id behind failure.Memory meant r ei e some = tt
no_application apps before next zero rest id behind (failure.Fault f) meant r ei e some = absurd (omega arith)
no_application apps before next (suc n) rest id behind (failure.Fault f) meant r ei e some =
    sym r.same ∙ ap (with_front apps) (then _ _ _ _ ei (stopped (stored_application_at behind) f _ e))

-- where none are left to read, the applications so far are those that are meant
pub is_done : (apps : List (ℕ × StoredApplication)) (before next left : ℕ) (rest : List ℕ) (meant : Front LedgerFault (List (ℕ × StoredApplication))) → ReadsOn apps before next left rest meant → left ≡ 0
    → meant ≡ Ok (apps, rest)
is_done apps before next left rest meant r e = sym r.same ∙ ap (λ n. with_front apps (applications_at n before next rest)) e ∙ ap (λ xs. Ok (xs, rest)) (append-nil apps)
