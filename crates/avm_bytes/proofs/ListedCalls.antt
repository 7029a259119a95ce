-- Reading calls one after another.
use Rattle.std.proofs.Common.{◌≡◌, ℕ, zero, suc, ◌+◌, ◌<◌, List, [], ◌∷◌, ◌++◌, Result, Ok, Err, refl, sym, ap, ◌∙◌, arith}
use Rattle.std.proofs.lemmas.List.{append-nil, append_assoc}
use Rattle.teal_value.specs.Answer.{◌>>=◌, Fails}
use Rattle.teal_value.specs.declared.failure.Failure.{Failure}
use Rattle.teal_value.specs.declared.failure.Failure.TheVariants as failure
use Rattle.avm_ledger.proofs.FieldsBack.{then}
use Rattle.avm_ledger.proofs.RisingReading.{stopped}
use Rattle.avm_items.specs.declared.call_data.CallData.{CallData}
use Rattle.avm_bytes.specs.declared.troubles.Refused.{Refused}
use Rattle.avm_bytes.specs.ListedCalls.{listed_call, more_calls}

-- calls that are read, and the place behind them
abbrev Read : Type 0
Read = Result (List CallData × ℕ) Refused

-- calls that are read, behind those before them
abbrev pub with_calls : List CallData → Read → Read
with_calls calls (Ok more) = Ok (calls ++ more.0, more.1)
with_calls calls (Err why) = Err why

-- the same, behind one call
abbrev in_front : CallData → Read → Read
in_front call read = read >>= λ more. Ok (call ∷ more.0, more.1)

none_in_front : (read : Read) → with_calls [] read ≡ read
none_in_front (Ok more) = refl
none_in_front (Err why) = refl

-- a call that is appended to those before stands in front of those behind
one_in_front : (calls : List CallData) (call : CallData) (read : Read) → with_calls (calls ++ call ∷ []) read ≡ with_calls calls (in_front call read)
one_in_front calls call (Ok more) = ap (λ cs. Ok (cs, more.1)) (append_assoc calls (call ∷ []) more.0)
one_in_front calls call (Err why) = refl

-- the calls so far, and so many more, of which the first has this number and begins at this place, are what is meant
pub record ReadsOn (bytes : List ℕ) (calls : List CallData) (number left place : ℕ) (meant : Read) : Type 0 where
  pub same : with_calls calls (more_calls bytes number left place) ≡ meant

-- before any call is read, all of them are meant
pub begins : (bytes : List ℕ) (now : List CallData) (number count left place : ℕ) → now ≡ [] → left ≡ count → ReadsOn bytes now number left place (more_calls bytes number count place)
begins bytes now number count left place none all = record { same = rw (none, all) (none_in_front _) }

-- after one more call is read, those so far and the rest still give what is meant
pub goes_on : (bytes : List ℕ) (calls now : List CallData) (number left n place : ℕ) (call : CallData) (next : ℕ) (meant : Read)
    → ReadsOn bytes calls number left place meant → listed_call bytes number place ≡ Ok (call, next) → now ≡ calls ++ call ∷ [] → left ≡ suc n
    → ReadsOn bytes now (number + 1) n next meant
goes_on bytes calls now number left n place call next meant reads read pushed less = record {
  same =
      rw pushed (one_in_front calls call (more_calls bytes (number + 1) n next)
      ∙ ap (with_calls calls) (sym (then _ _ _ _ read refl))
      ∙ ap (λ m. with_calls calls (more_calls bytes number m place)) (sym less)
      ∙ reads.same);
}

-- while any are left, a failure at the next call is the failure of the whole reading
pub no_call_there : (bytes : List ℕ) (calls : List CallData) (number left place : ℕ) (d : Failure Refused) (meant : Read)
    → ReadsOn bytes calls number left place meant → Fails d (listed_call bytes number place) → 0 < left → Fails d meant
no_call_there bytes calls number left place failure.Memory meant reads fails some = tt
no_call_there bytes calls number zero place (failure.Fault f) meant reads fails some = absurd (omega arith)
no_call_there bytes calls number (suc n) place (failure.Fault f) meant reads fails some =
    sym reads.same ∙ ap (with_calls calls) (stopped (listed_call bytes number place) f _ fails)

-- where none are left, the calls so far are all
pub is_done : (bytes : List ℕ) (calls : List CallData) (number left place : ℕ) (meant : Read) → ReadsOn bytes calls number left place meant → left ≡ 0 → meant ≡ Ok (calls, place)
is_done bytes calls number left place meant reads none =
    sym reads.same ∙ ap (λ n. with_calls calls (more_calls bytes number n place)) none ∙ ap (λ cs. Ok (cs, place)) (append-nil calls)
