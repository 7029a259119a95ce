-- Calls made one after another.
use Rattle.std.proofs.Common.{◌≡◌, ◌∙◌, ℕ, ◌+◌, ◌<◌, ◌≤◌, List, [], ◌∷◌, ◌++◌, drop, slice_index_or, length, refl, sym, ap, append_assoc}
use Rattle.std.proofs.lemmas.List.{append-nil, drop_all, drop_more}
use Rattle.avm_ledger.specs.declared.header.Header.{Header}
use Rattle.avm_ledger.specs.Ledgers.{Ledger}
use Rattle.avm_call.specs.declared.outcome.Outcome.{Outcome}
use Rattle.avm_call.specs.Replay.{ledger_after, outcome_on, outcomes, replayed}
use Rattle.avm_block.specs.declared.entry.Entry.{Entry}
use Rattle.avm_block.specs.Blocks.{calls_in}

-- the calls that are left end so, behind those that were made, and lead to the ledger after all of them
pub record Left (first : Ledger) (h : Header) (entries : List Entry) (i : ℕ) (made : List Outcome) (l : Ledger) : Type 0 where
  pub ends : made ++ outcomes l h (calls_in (drop i entries)) ≡ outcomes first h (calls_in entries)
  pub leads : replayed l h (calls_in (drop i entries)) ≡ replayed first h (calls_in entries)

-- before the first call, all are left
pub none_made : (first : Ledger) (h : Header) (entries : List Entry) → Left first h entries 0 [] first
none_made first h entries = record { ends = refl; leads = refl }

pub one_made : (first : Ledger) (h : Header) (entries : List Entry) (i : ℕ) (made : List Outcome) (l : Ledger) (e : Entry) → i < length entries → e ≡ slice_index_or entries i e → Left first h entries i made l
    → Left first h entries (i + 1) (made ++ outcome_on l e.call h ∷ []) (ledger_after l e.call h)
one_made first h entries i made l e lt is left =
    let more : drop i entries ≡ e ∷ drop (i + 1) entries = drop_more entries i e lt ∙ ap (λ x. x ∷ drop (i + 1) entries) (sym is) in
    let rest = outcomes (ledger_after l e.call h) h (calls_in (drop (i + 1) entries)) in record {
      ends = append_assoc made (outcome_on l e.call h ∷ []) rest ∙ sym (ap (λ es. made ++ outcomes l h (calls_in es)) more) ∙ left.ends;
      leads = sym (ap (λ es. replayed l h (calls_in es)) more) ∙ left.leads;
    }

-- behind the last call, none is left
pub all_made : (first : Ledger) (h : Header) (entries : List Entry) (i : ℕ) (made : List Outcome) (l : Ledger) → length entries ≤ i → Left first h entries i made l
    → (made ≡ outcomes first h (calls_in entries)) × (l ≡ replayed first h (calls_in entries))
all_made first h entries i made l over left =
    let none : drop i entries ≡ [] = drop_all i entries over in
    (sym (append-nil made) ∙ ap (λ es. made ++ outcomes l h (calls_in es)) (sym none) ∙ left.ends, ap (λ es. replayed l h (calls_in es)) (sym none) ∙ left.leads)
