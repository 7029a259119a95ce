-- A ledger and a block are read back from how they are shown.
use Rattle.std.proofs.Common.{◌≡◌, ℕ, suc, zero, ◌≤◌, Bool, true, ◌&&◌, List, [], ◌∷◌, length, map, All, Option, Ok, Some, None, refl, sym, ap, arith}
use Rattle.std.specs.Prelude.{is_none}
use Rattle.std.proofs.lemmas.List.{map-append}
use Rattle.std.proofs.lemmas.List.Elements.{All-nil, All-cons, All-head, All-tail}
use Rattle.avm_ledger.specs.declared.header.Header.{Header}
use Rattle.avm_ledger.specs.declared.header.Profile.TheVariants.{Three}
use Rattle.avm_ledger.specs.Ledgers.{Ledger}
use Rattle.avm_ledger.specs.LedgerRules.{KeepsRules}
use Rattle.avm_items.specs.declared.call_data.CallData.{CallData}
use Rattle.avm_call.specs.CallRules.{call_fault, needed_profile}
use Rattle.avm_block.specs.declared.entry.Entry.{Entry}
use Rattle.avm_block.specs.AcceptedCalls.{fits_in, is_accepted}
use Rattle.avm_block.specs.Blocks.{Block, calls_in, calls_of, most_calls}
use Rattle.avm_block.specs.BlockRoundTrip.{AreEntries, IsBlock}
use Rattle.avm_rule_laws.specs.Rules.{IsCallOfBytes}
use Rattle.json.specs.Json.{Json}
use Rattle.json.specs.Find.{get_item}
use Rattle.json_documents.specs.Members.{least_unknown}
use Rattle.json_documents.specs.Documents.{document, front}
use Rattle.json_documents.specs.Sources.{no_sources, targets_from}
use Rattle.json_documents.specs.Transactions.{Batch, transactions, with_signed}
use Rattle.json_views.specs.Documents.{array_of, items_of}
use Rattle.json_views.specs.ShownBlocks.{shown_block, shown_block_entry}
use Rattle.json_laws.specs.OfBytes.{IsWholeLedgerOfBytes}
use Rattle.json_laws.specs.ReadBack.{shown_as}
use Rattle.json_laws.proofs.ArraysBack.{AddItself, array_back, at_seam, then, then_in}
use Rattle.json_laws.proofs.CallsBack.{call_back}
use Rattle.json_laws.proofs.LedgersBack.{ledger_back, next_back}
use Rattle.json_laws.proofs.PlainBack.{uint_back}

-- ---- the calls

-- a call that breaks no rule of calls, and is of bytes
record IsFaultless (c : CallData) : Type 0 where
  of_bytes : IsCallOfBytes c
  faultless : call_fault c ≡ None

-- an entry with such a call
HasFaultless : Entry → Type 0
HasFaultless e = IsFaultless e.call

none_broken : {A : Type 0} (o : Option A) (b : Bool) → (is_none o && b) ≡ true → o ≡ None
none_broken None b e = refl
none_broken (Some x) b e = absurd cc

faultless_calls : (h : Header) (before : ℕ) (es : List Entry) → AreEntries (is_accepted h.profile) before es → All IsCallOfBytes (calls_in es) → All HasFaultless es
unfolding HasFaultless
faultless_calls h before [] are of = All-nil HasFaultless
faultless_calls h before (e ∷ es) are of =
    All-cons HasFaultless e es
    (record { of_bytes = All-head IsCallOfBytes e.call (calls_in es) of; faultless = none_broken (call_fault e.call) (fits_in (needed_profile e.call) h.profile) are.0.allowed })
    (faultless_calls h e.timestamp es are.1 (All-tail IsCallOfBytes e.call (calls_in es) of))

-- behind the last element there is none
none_behind : {A : Type 0} (shown : A → Json) (xs : List A) (n : ℕ) → length xs ≤ n → get_item n (items_of (map shown xs)) ≡ None
none_behind shown [] n few = refl
none_behind shown (x ∷ xs) zero few = absurd (omega arith)
none_behind shown (x ∷ xs) (suc n) few = none_behind shown xs n (omega arith)

-- calls in no group
abbrev alone : List CallData → Batch
alone calls = record { calls = calls; groups = [] }

calls_add : (es : List Entry) → All HasFaultless es → AddItself (with_signed no_sources) shown_block_entry (λ before. alone (calls_in before)) es
unfolding least_unknown HasFaultless
calls_add es all before e rest is =
    let ok = at_seam HasFaultless before e rest es is all in
    then_in _ _ _ _ _ (call_back e.call [] (length (calls_in before)) ok.of_bytes ok.faultless) (ap (λ calls. Ok (alone calls)) (sym (map-append (λ (x : Entry). x.call) before (e ∷ []))))

calls_back : (es : List Entry) → length es ≤ most_calls → All HasFaultless es → transactions no_sources (array_of shown_block_entry es) ≡ Ok (calls_in es)
calls_back es few all = rw (none_behind shown_block_entry es most_calls few) (then _ _ _ _ (array_back (with_signed no_sources) shown_block_entry (λ before. alone (calls_in before)) es (calls_add es all)) refl)

-- ---- the block

module _ (l : Ledger) (b : Block) (rules : KeepsRules l) (of : IsWholeLedgerOfBytes l) (is : IsBlock is_accepted b) (calls : All IsCallOfBytes (calls_of b)) where
  front_back : front (shown_block l b) ≡ Ok (record { header = record b.header { profile = Three }; next_id = Some l.next_id })
  front_back =
      then_in _ _ _ _ _ (uint_back b.header.latest_timestamp is.header.latest_timestamp)
      (then_in _ _ _ _ _ (uint_back b.header.max_life is.header.max_life)
      (then_in _ _ _ _ _ (uint_back b.header.min_balance is.header.min_balance)
      (then_in _ _ _ _ _ (uint_back b.header.min_fee is.header.min_fee)
      (then_in _ _ _ _ _ (next_back l rules of)
      (then_in _ _ _ _ _ (uint_back b.header.round is.header.round) refl)))))

  -- a ledger and a block are read back: the ledger, the calls, and the header in profile 3
  pub shown_block_back : document (shown_block l b) ≡ Ok (shown_as l (Some b))
  unfolding least_unknown targets_from
  shown_block_back =
      then _ _ _ _ front_back
      (then _ _ _ _ (ledger_back l rules of (shown_block l b) refl refl)
      (then_in _ _ _ _ _ (calls_back b.entries is.few (faultless_calls b.header 0 b.entries is.entries calls)) refl))
