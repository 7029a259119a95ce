-- Reading local states one after another.
use Rattle.std.proofs.Common.{◌≡◌, ℕ, zero, suc, ◌<◌, List, [], ◌∷◌, ◌++◌, Option, Some, Ok, Err, refl, sym, ap, ◌∙◌, arith}
use Rattle.teal_value.specs.Answer.{◌>>=◌, Fails}
use Rattle.teal_value.specs.declared.address.Address.{Address}
use Rattle.teal_value.specs.declared.failure.Failure.{Failure}
use Rattle.teal_value.specs.declared.failure.Failure.TheVariants as failure
use Rattle.avm_ledger.specs.declared.ledger_fault.LedgerFault.{LedgerFault}
use Rattle.avm_ledger.specs.declared.application.StoredApplication.{StoredApplication}
use Rattle.avm_states.specs.Entries.{Entries}
use Rattle.avm_ledger.specs.FieldReader.{Front}
use Rattle.avm_ledger.specs.LedgerReader.{Room, local_room, stored_in, state_at, account_at, local_id_at, local_states_at}
use Rattle.avm_ledger.proofs.FieldsBack.{then}
use Rattle.avm_ledger.proofs.RisingReading.{with_front, one_in_front, stopped}

abbrev pub LocalStates : Type 0
LocalStates = List ((Address × ℕ) × Entries)

-- the local states so far and those of the rest are those that are meant
pub record ReadsOn (states : LocalStates) (before : Option (Address × ℕ)) (next : ℕ) (apps : List (ℕ × StoredApplication)) (left : ℕ) (rest : List ℕ) (meant : Front LedgerFault LocalStates) : Type 0 where
  pub same : with_front states (local_states_at left before next apps rest) ≡ meant

one_more : (before : Option (Address × ℕ)) (next : ℕ) (apps : List (ℕ × StoredApplication)) (n : ℕ) (rest : List ℕ) (who : Address) (b1 : List ℕ) (id : ℕ) (b2 : List ℕ) (state : Entries) (b3 : List ℕ)
    → account_at before rest ≡ Ok (who, b1) → local_id_at before next who b1 ≡ Ok (id, b2) → state_at (local_room (stored_in apps id)) b2 ≡ Ok (state, b3)
    → local_states_at (suc n) before next apps rest ≡ (local_states_at n (Some (who, id)) next apps b3 >>= λ more. Ok (((who, id), state) ∷ more.0, more.1))
one_more before next apps n rest who b1 id b2 state b3 ew ei es = then _ _ _ _ ew (then _ _ _ _ ei (then _ _ _ _ es refl))

-- after one more local state is read, those so far and the rest still give what is meant
pub goes_on : (states now : LocalStates) (before : Option (Address × ℕ)) (next : ℕ) (apps : List (ℕ × StoredApplication)) (left n : ℕ) (rest : List ℕ) (who : Address) (b1 : List ℕ) (id : ℕ) (b2 : List ℕ) (room : Room) (state : Entries) (b3 : List ℕ)
    (meant : Front LedgerFault LocalStates) → ReadsOn states before next apps left rest meant → account_at before rest ≡ Ok (who, b1) → local_id_at before next who b1 ≡ Ok (id, b2)
    → room ≡ local_room (stored_in apps id) → state_at room b2 ≡ Ok (state, b3) → now ≡ states ++ ((who, id), state) ∷ [] → left ≡ suc n → ReadsOn now (Some (who, id)) next apps n b3 meant
goes_on states now before next apps left n rest who b1 id b2 room state b3 meant r ew ei is es pushed less_left =
    let read : state_at (local_room (stored_in apps id)) b2 ≡ Ok (state, b3) = ap (λ m. state_at m b2) (sym is) ∙ es in
    record {
      same =
          rw pushed (sym (one_in_front states ((who, id), state) (local_states_at n (Some (who, id)) next apps b3))
          ∙ ap (with_front states) (sym (one_more before next apps n rest who b1 id b2 state b3 ew ei read))
          ∙ ap (λ m. with_front states (local_states_at m before next apps rest)) (sym less_left)
          ∙ r.same);
    }

-- while any are left, a failure at the next account is the failure of the whole reading
pub no_account : (states : LocalStates) (before : Option (Address × ℕ)) (next : ℕ) (apps : List (ℕ × StoredApplication)) (left : ℕ) (rest : List ℕ) (d : Failure LedgerFault) (meant : Front LedgerFault LocalStates)
    → ReadsOn states before next apps left rest meant → Fails d (account_at before rest) → 0 < left → Fails d meant
no_account states before next apps left rest failure.Memory meant r e some = tt
no_account states before next apps zero rest (failure.Fault f) meant r e some = absurd (omega arith)
no_account states before next apps (suc n) rest (failure.Fault f) meant r e some = sym r.same ∙ ap (with_front states) (stopped (account_at before rest) f _ e)

pub no_id : (states : LocalStates) (before : Option (Address × ℕ)) (next : ℕ) (apps : List (ℕ × StoredApplication)) (left : ℕ) (rest : List ℕ) (who : Address) (b1 : List ℕ) (d : Failure LedgerFault) (meant : Front LedgerFault LocalStates)
    → ReadsOn states before next apps left rest meant → account_at before rest ≡ Ok (who, b1) → Fails d (local_id_at before next who b1) → 0 < left → Fails d meant
no_id states before next apps left rest who b1 failure.Memory meant r ew e some = tt
no_id states before next apps zero rest who b1 (failure.Fault f) meant r ew e some = absurd (omega arith)
no_id states before next apps (suc n) rest who b1 (failure.Fault f) meant r ew e some =
    sym r.same ∙ ap (with_front states) (then _ _ _ _ ew (stopped (local_id_at before next who b1) f _ e))

pub no_state : (states : LocalStates) (before : Option (Address × ℕ)) (next : ℕ) (apps : List (ℕ × StoredApplication)) (left : ℕ) (rest : List ℕ) (who : Address) (b1 : List ℕ) (id : ℕ) (b2 : List ℕ) (room : Room) (d : Failure LedgerFault)
    (meant : Front LedgerFault LocalStates) → ReadsOn states before next apps left rest meant → account_at before rest ≡ Ok (who, b1) → local_id_at before next who b1 ≡ Ok (id, b2)
    → room ≡ local_room (stored_in apps id) → Fails d (state_at room b2) → 0 < left → Fails d meant
no_state states before next apps left rest who b1 id b2 room failure.Memory meant r ew ei is e some = tt
no_state states before next apps zero rest who b1 id b2 room (failure.Fault f) meant r ew ei is e some = absurd (omega arith)
no_state states before next apps (suc n) rest who b1 id b2 room (failure.Fault f) meant r ew ei is e some =
    let fails : state_at (local_room (stored_in apps id)) b2 ≡ Err f = ap (λ m. state_at m b2) (sym is) ∙ e in
    sym r.same ∙ ap (with_front states) (then _ _ _ _ ew (then _ _ _ _ ei (stopped (state_at (local_room (stored_in apps id)) b2) f _ fails)))
