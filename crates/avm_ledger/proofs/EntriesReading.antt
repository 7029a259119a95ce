-- Reading the entries of a state one after another.
use Rattle.std.proofs.Common.{◌≡◌, ℕ, zero, suc, ◌<◌, ◌≤◌, true, ◌&&◌, leb, List, [], ◌∷◌, ◌++◌, length, Option, Some, None, Ok, refl, sym, ap, ◌∙◌, arith}
use Rattle.std.proofs.lemmas.List.{append-nil}
use Rattle.std.proofs.lemmas.Bool.{leb-true}
use Rattle.teal_value.specs.Answer.{◌>>=◌, Fails}
use Rattle.teal_value.specs.declared.failure.Failure.{Failure}
use Rattle.teal_value.specs.declared.failure.Failure.TheVariants as failure
use Rattle.teal_value.specs.declared.value.Value.{Value}
use Rattle.avm_ledger.specs.declared.ledger_fault.LedgerFault.{LedgerFault}
use Rattle.avm_ledger.specs.declared.ledger_fault.LedgerFault.TheVariants.{Truncated}
use Rattle.avm_states.specs.declared.schema.Schema.{Schema}
use Rattle.avm_states.specs.Entries.{Entries, with_entry}
use Rattle.avm_states.specs.Schemas.{count_without}
use Rattle.avm_ledger.specs.FieldReader.{Front, short_string_at}
use Rattle.avm_ledger.specs.LedgerReader.{rises_from_key, key_at, value_at, entries_at}
use Rattle.avm_states.proofs.KeyOrder.{byte_total}
use Rattle.avm_ledger.proofs.FieldsBack.{then}
use Rattle.avm_ledger.proofs.FieldsEncoded.{from}
use Rattle.avm_ledger.proofs.LedgerKept.{rule_kept, and_second, less}
use Rattle.avm_ledger.proofs.LedgerEncoded.{and_first}
use Rattle.avm_ledger.proofs.RisingReading.{AllLower, with_front, none_in_front, one_in_front, stopped, insert_last, all_lower_more}

-- the entries so far and those of the rest are those that are meant, and a key that comes next stands above all so far
pub record ReadsOn (state : Entries) (before : Option (List ℕ)) (kinds : Schema) (left : ℕ) (rest : List ℕ) (meant : Front LedgerFault Entries) : Type 0 where
  pub same : with_front state (entries_at left before kinds rest) ≡ meant
  pub above : (k : List ℕ) → rises_from_key before k ≡ true → AllLower byte_total state k

-- what a key keeps
key_rule : (before : Option (List ℕ)) (rest k next : List ℕ) → key_at before rest ≡ Ok (k, next) → (leb (length k) 64 && rises_from_key before k) ≡ true
key_rule before rest k next e =
    from (short_string_at Truncated rest) _ (k, next) e (λ s es e1. (rule_kept (λ z. leb (length z.0) 64 && rises_from_key before z.0) s (k, next) e1).0)

-- a key that is read has at most 64 bytes
pub short_key : (before : Option (List ℕ)) (rest k next : List ℕ) → key_at before rest ≡ Ok (k, next) → length k ≤ 64
short_key before rest k next e = leb-true (length k) 64 (and_first _ _ (key_rule before rest k next e))

-- before any entry is read, what is meant is the reading of all of them
pub begins : (state : Entries) (kinds : Schema) (count left : ℕ) (bytes : List ℕ) → state ≡ [] → left ≡ count → ReadsOn state None kinds left bytes (entries_at count None kinds bytes)
begins state kinds count left bytes e f = record {
  same = rw (e, f) (none_in_front _);
  above = λ k rises. rw e tt;
}

one_more : (before : Option (List ℕ)) (kinds : Schema) (n : ℕ) (rest k next : List ℕ) (v : Value) (behind : List ℕ) → key_at before rest ≡ Ok (k, next) → value_at kinds next ≡ Ok (v, behind)
    → entries_at (suc n) before kinds rest ≡ (entries_at n (Some k) (count_without v kinds) behind >>= λ es. Ok ((k, v) ∷ es.0, es.1))
one_more before kinds n rest k next v behind ek ev = then _ _ _ _ ek (then _ _ _ _ ev refl)

-- after one more entry is read and set, those so far and the rest still give what is meant
pub goes_on : (state now : Entries) (before : Option (List ℕ)) (kinds fewer : Schema) (left n : ℕ) (rest k next : List ℕ) (v : Value) (behind : List ℕ) (meant : Front LedgerFault Entries)
    → ReadsOn state before kinds left rest meant → key_at before rest ≡ Ok (k, next) → value_at kinds next ≡ Ok (v, behind) → now ≡ with_entry state k v → fewer ≡ count_without v kinds → left ≡ suc n
    → ReadsOn now (Some k) fewer n behind meant
goes_on state now before kinds fewer left n rest k next v behind meant r ek ev put counted less_left =
    let lower = r.above k (and_second _ _ (key_rule before rest k next ek)) in
    let last : now ≡ state ++ (k, v) ∷ [] = put ∙ insert_last byte_total k v state lower in
    record {
      same =
          rw (last, counted) (sym (one_in_front state (k, v) (entries_at n (Some k) (count_without v kinds) behind))
          ∙ ap (with_front state) (sym (one_more before kinds n rest k next v behind ek ev))
          ∙ ap (λ m. with_front state (entries_at m before kinds rest)) (sym less_left)
          ∙ r.same);
      above = λ q rises. rw last (all_lower_more byte_total k q v state lower (less _ rises));
    }

-- while any are left, a failure at the next key is the failure of the whole reading
pub no_key : (state : Entries) (before : Option (List ℕ)) (kinds : Schema) (left : ℕ) (rest : List ℕ) (d : Failure LedgerFault) (meant : Front LedgerFault Entries)
    → ReadsOn state before kinds left rest meant → Fails d (key_at before rest) → 0 < left → Fails d meant
no_key state before kinds left rest failure.Memory meant r e some = tt
no_key state before kinds zero rest (failure.Fault f) meant r e some = absurd (omega arith)
no_key state before kinds (suc n) rest (failure.Fault f) meant r e some = sym r.same ∙ ap (with_front state) (stopped (key_at before rest) f _ e)

pub no_value : (state : Entries) (before : Option (List ℕ)) (kinds : Schema) (left : ℕ) (rest k next : List ℕ) (d : Failure LedgerFault) (meant : Front LedgerFault Entries)
    → ReadsOn state before kinds left rest meant → key_at before rest ≡ Ok (k, next) → Fails d (value_at kinds next) → 0 < left → Fails d meant
no_value state before kinds left rest k next failure.Memory meant r ek e some = tt
no_value state before kinds zero rest k next (failure.Fault f) meant r ek e some = absurd (omega arith)
no_value state before kinds (suc n) rest k next (failure.Fault f) meant r ek e some =
    sym r.same ∙ ap (with_front state) (then _ _ _ _ ek (stopped (value_at kinds next) f _ e))

-- where none are left to read, the entries so far are those that are meant
pub is_done : (state : Entries) (before : Option (List ℕ)) (kinds : Schema) (left : ℕ) (rest : List ℕ) (meant : Front LedgerFault Entries) → ReadsOn state before kinds left rest meant → left ≡ 0 → meant ≡ Ok (state, rest)
is_done state before kinds left rest meant r e = sym r.same ∙ ap (λ n. with_front state (entries_at n before kinds rest)) e ∙ ap (λ xs. Ok (xs, rest)) (append-nil state)
