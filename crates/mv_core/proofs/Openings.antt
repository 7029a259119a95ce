-- A store in which nothing has begun keeps what a store keeps.
use Rattle.std.proofs.Common.{◌≡◌, ℕ, zero, suc, ◌+◌, List, [], ◌∷◌, ◌++◌, length, length-append, Option, None, get_or, refl, sym, subst, arith}
use Rattle.avm_ledger.specs.declared.header.Header.{Header}
use Rattle.avm_ledger.specs.Ledgers.{IsOrderly, Ledger}
use Rattle.avm_items.specs.declared.call_data.CallData.{CallData}
use Rattle.avm_items.specs.declared.item.Item.{Item}
use Rattle.avm_items.specs.declared.item_value.ItemValue.{ItemValue}
use Rattle.avm_items.specs.LedgerItems.{at}
use Rattle.avm_call.specs.declared.outcome.Outcome.{Outcome}
use Rattle.mv_history.specs.World.{first_world}
use Rattle.mv_history.proofs.Events.{schedule_first}
use Rattle.mv_chain.specs.Agreement.{HoldsVersions}
use Rattle.mv_chain.specs.Stores.{marks_of}
use Rattle.mv_chain.proofs.Agreements.{every_first_version_agrees_lem}
use Rattle.mv_parts.specs.CallHistory.{CallAttempt, same_item}
use Rattle.mv_shards.specs.Writing.{versions_for}
use Rattle.mv_shards.specs.Helds.{ShardSlots}
use Rattle.mv_parts.specs.Journals.{Journal, first_journal}
use Rattle.mv_parts.specs.Opening.{first_slots}
use Rattle.mv_parts.proofs.Agreeing.{every_first_shard_agrees}
use Rattle.mv_core.specs.Calls.{IsKeptByJournal}
use Rattle.mv_core.proofs.AllShards.{first_over, no_marks, versions_first}
use Rattle.mv_core.specs.AttemptSlots.{AreEmpty, IsSlotOf}
use Rattle.mv_core.specs.Stores.{CallSlots, IsKeptStore}

pub none_empty : AreEmpty {Item = Item} {Value = ItemValue} 0 []
none_empty = record { are = refl; each = λ i. refl }

still_empty : (xs : List (Option CallAttempt)) → ((i : ℕ) → get_or xs i None ≡ None) → (i : ℕ) → get_or (xs ++ None ∷ []) i None ≡ None
still_empty [] h zero = refl
still_empty [] h (suc i) = refl
still_empty (x ∷ xs) h zero = h zero
still_empty (x ∷ xs) h (suc i) = still_empty xs (λ k. h (suc k)) i

pub one_more_empty : (n : ℕ) (xs : List (Option CallAttempt)) → AreEmpty n xs → AreEmpty (n + 1) (xs ++ None ∷ [])
one_more_empty n xs k = record { are = omega (arith, length-append xs (None ∷ []), k.are); each = still_empty xs k.each }

-- a store over an orderly ledger in which no call has begun keeps its facts
pub kept_first : (base : Ledger) (header : Header) (calls : List CallData) (slots : CallSlots) → IsOrderly base → AreEmpty (length calls) slots → IsKeptStore base header calls first_world (first_slots base) slots
kept_first base header calls slots orderly empty = record {
  orderly = orderly;
  store = record {
    holds = λ x. subst (HoldsVersions {Outcome = Outcome} (λ value. value) same_item (at base) 0 [] x) (sym (versions_first base x)) (every_first_version_agrees_lem Item ItemValue Outcome ItemValue (λ value. value) same_item (at base) 0 0 x);
    consistent = record { journal = record { rising = tt; finished = tt; agree = tt }; schedule = schedule_first same_item (at base) (marks_of (versions_for (first_slots base))) (no_marks base) };
  };
  shards = first_over base;
  are_calls = tt;
  live_calls = tt;
  count = empty.are;
  attempts = λ i within. subst (IsSlotOf [] (i + 1)) (sym (empty.each i)) refl;
}

-- so does one whose journal has just been opened, with its shards
pub kept_opened : (base : Ledger) (header : Header) (calls : List CallData) (j : Journal) (shard_slots : ShardSlots) (slots : CallSlots) → j ≡ first_journal base header calls → shard_slots ≡ first_slots base → IsOrderly base
    → AreEmpty (length calls) slots → IsKeptByJournal j shard_slots slots
kept_opened base header calls j shard_slots slots first all orderly empty =
    rw (first, all) (record { kept = kept_first base header calls slots orderly empty; agree = every_first_shard_agrees base header calls })
