-- Reading entries one after another.
use Rattle.std.proofs.Common.{◌≡◌, ℕ, zero, suc, ◌<◌, Bool, List, [], ◌∷◌, ◌++◌, Ok, refl, sym, ap, ◌∙◌, arith}
use Rattle.std.proofs.lemmas.List.{append-nil}
use Rattle.teal_value.specs.Answer.{Fails}
use Rattle.teal_value.specs.declared.failure.Failure.{Failure}
use Rattle.teal_value.specs.declared.failure.Failure.TheVariants as failure
use Rattle.avm_ledger.specs.FieldReader.{Front}
use Rattle.avm_ledger.proofs.FieldsBack.{then}
use Rattle.avm_ledger.proofs.RisingReading.{with_front, none_in_front, one_in_front, stopped}
use Rattle.avm_items.specs.declared.call_data.CallData.{CallData}
use Rattle.avm_block.specs.declared.block_fault.BlockFault.{BlockFault}
use Rattle.avm_block.specs.declared.entry.Entry.{Entry}
use Rattle.avm_block.specs.BlockReader.{block_entry_at, block_entries_at}

-- the entries so far and those of the rest are those that are meant
pub record ReadsOn (accepted : CallData → Bool) (so_far : List Entry) (before left : ℕ) (rest : List ℕ) (meant : Front BlockFault (List Entry)) : Type 0 where
  pub same : with_front so_far (block_entries_at accepted left before rest) ≡ meant

-- before the first entry none is read, and all are left
pub begins : (accepted : CallData → Bool) (now : List Entry) (count left : ℕ) (bytes : List ℕ) → now ≡ [] → left ≡ count → ReadsOn accepted now 0 left bytes (block_entries_at accepted count 0 bytes)
begins accepted now count left bytes e f = record { same = rw (e, f) (none_in_front _) }

-- an entry that is read joins those so far
pub goes_on : (accepted : CallData → Bool) (so_far now : List Entry) (before left n : ℕ) (rest next : List ℕ) (x : Entry) (meant : Front BlockFault (List Entry))
    → ReadsOn accepted so_far before left rest meant → block_entry_at accepted before rest ≡ Ok (x, next) → now ≡ so_far ++ x ∷ [] → left ≡ suc n → ReadsOn accepted now x.timestamp n next meant
goes_on accepted so_far now before left n rest next x meant r e pushed less_left = record {
  same =
      rw pushed (sym (one_in_front so_far x (block_entries_at accepted n x.timestamp next))
      ∙ ap (with_front so_far) (sym (then _ _ _ _ e refl))
      ∙ ap (λ m. with_front so_far (block_entries_at accepted m before rest)) (sym less_left)
      ∙ r.same);
}

-- where reading the next entry fails, reading the entries fails for the same reason
pub no_more : (accepted : CallData → Bool) (so_far : List Entry) (before left : ℕ) (rest : List ℕ) (d : Failure BlockFault) (meant : Front BlockFault (List Entry))
    → ReadsOn accepted so_far before left rest meant → Fails d (block_entry_at accepted before rest) → 0 < left → Fails d meant
no_more accepted so_far before left rest failure.Memory meant r e some = tt
no_more accepted so_far before zero rest (failure.Fault f) meant r e some = absurd (omega arith)
no_more accepted so_far before (suc n) rest (failure.Fault f) meant r e some = sym r.same ∙ ap (with_front so_far) (stopped (block_entry_at accepted before rest) f _ e)

-- with none left, the entries so far are all
pub is_done : (accepted : CallData → Bool) (so_far : List Entry) (before left : ℕ) (rest : List ℕ) (meant : Front BlockFault (List Entry)) → ReadsOn accepted so_far before left rest meant → left ≡ 0 → meant ≡ Ok (so_far, rest)
is_done accepted so_far before left rest meant r e = sym r.same ∙ ap (λ n. with_front so_far (block_entries_at accepted n before rest)) e ∙ ap (λ xs. Ok (xs, rest)) (append-nil so_far)
