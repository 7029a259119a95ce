-- What is found of a page, and answered.
use Rattle.std.proofs.Common.{◌≡◌, ℕ, ◌≤◌, List, length, Result, Ok, Err, IfOk, inl, inr, refl}
use Rattle.std.specs.Prelude.{IfErr}
use Rattle.teal_value.specs.declared.failure.Failure.{Failure}
use Rattle.teal_value.specs.declared.failure.Failure.TheVariants as failure
use Rattle.avm_ledger.specs.Ledgers.{Ledger}
use Rattle.avm_ledger.specs.Encodings.{ledger_digest}
use Rattle.avm_block.specs.Blocks.{Block}
use Rattle.avm_input.specs.Replies.{Reply, succeeded}
use Rattle.json_views.specs.TraceReplies.{IsRefusalReply}
use Rattle.json_views.specs.declared.refusal.TraceRefusal.{TraceRefusal}
use Rattle.json_views.specs.declared.refusal.TraceRefusal.TheVariants as refusal
use Rattle.json_views.specs.Weights.{most_text}
use Rattle.json_commands.specs.declared.traces.Traces.TheVariants.{All, Entry, LeftOut}
use Rattle.json_commands.specs.Pages.{FindsBlockPage, FindsEntryPage, IsPage, IsTooLong, page_reply}
use Rattle.json_commands.specs.Writing.{IsPageFailure, IsPageRefusal}
use Rattle.std.specs.Prelude.{codes}

-- ---- an entry

pub entry_refused : (base : Ledger) (b : Block) (number : ℕ) (why : Failure TraceRefusal) → IsPageFailure (Entry number) base b why → IsPageRefusal (FindsEntryPage (base, b) number) why
entry_refused base b number failure.Memory f = tt
entry_refused base b number (failure.Fault refusal.TooLong) f = f
entry_refused base b number (failure.Fault (refusal.Opening fault)) f = f

-- ---- a block

module _ (base : Ledger) (b : Block) (over : b.base ≡ ledger_digest base) where
  -- with all traces
  pub all_found : (page : List ℕ) → IsPage All base b page → length page ≤ most_text → FindsBlockPage (base, b) (Ok page)
  all_found page is short = (over, short, inl is)

  pub all_refused : (why : Failure TraceRefusal) → IsPageFailure All base b why → (why ≡ failure.Fault refusal.TooLong → ⊥) → IsPageRefusal (FindsBlockPage (base, b)) why
  all_refused failure.Memory f other = tt
  all_refused (failure.Fault refusal.TooLong) f other = absurd (other refl)
  all_refused (failure.Fault (refusal.Opening fault)) f other = absurd f

  -- without, where it is too long with them
  pub short_found : (page : List ℕ) → IsTooLong All base b → IsPage LeftOut base b page → length page ≤ most_text → FindsBlockPage (base, b) (Ok page)
  short_found page long is short = (over, short, inr (long, is))

  pub short_refused : (why : Failure TraceRefusal) → IsTooLong All base b → IsPageFailure LeftOut base b why → IsPageRefusal (FindsBlockPage (base, b)) why
  short_refused failure.Memory long f = tt
  short_refused (failure.Fault refusal.TooLong) long f = (over, long, f.1)
  short_refused (failure.Fault (refusal.Opening fault)) long f = absurd f

-- ---- the answer

refused_alike : (why : TraceRefusal) (reply : Reply) → IsRefusalReply (codes "refused page TooLong\n") (failure.Fault why) reply → reply ≡ page_reply (Err why)
refused_alike refusal.TooLong reply is = is
refused_alike (refusal.Opening fault) reply is = is

pub page_is_told : {A R E : Type 0} (bytes : A → List ℕ) (shown : R → Reply) (Finds : Result (List ℕ) TraceRefusal → Type 0) (found : Result A (Failure TraceRefusal)) (result : Result R E)
    → IfOk found (λ page. Finds (Ok (bytes page))) → IfErr found (IsPageRefusal Finds)
    → IfOk found (λ page. IfOk result (λ reply. shown reply ≡ record { text = bytes page; status = succeeded }))
    → IfErr found (λ why. IfOk result (λ reply. IsRefusalReply (codes "refused page TooLong\n") why (shown reply)))
    → IfOk result (λ reply. (what : Result (List ℕ) TraceRefusal) × Finds what × (shown reply ≡ page_reply what))
page_is_told bytes shown Finds (Ok page) (Ok reply) finds refuses told refused = (Ok (bytes page), finds, told)
page_is_told bytes shown Finds (Err failure.Memory) (Ok reply) finds refuses told refused = absurd refused
page_is_told bytes shown Finds (Err (failure.Fault why)) (Ok reply) finds refuses told refused = (Err why, refuses, refused_alike why (shown reply) refused)
page_is_told bytes shown Finds found (Err e) finds refuses told refused = tt
