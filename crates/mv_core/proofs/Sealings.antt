-- A store's seal, by its journal's: what is seen of the two differs in what live attempts have read, and in marks.
use Rattle.std.proofs.Common.{◌≡◌, List, [], ◌∷◌, ℕ, refl, ap}
use Rattle.std.specs.Prelude.{◌↔◌}
use Rattle.teal_value.specs.declared.failure.Failure.{Failure}
use Rattle.teal_value.specs.declared.failure.Failure.TheVariants as failure
use Rattle.avm_ledger.specs.declared.header.Header.{Header}
use Rattle.avm_ledger.specs.Ledgers.{Ledger}
use Rattle.avm_items.specs.declared.call_data.CallData.{CallData}
use Rattle.avm_block.specs.Blocks.{Block}
use Rattle.mv_parts.specs.CallHistory.{CallAttempt}
use Rattle.mv_shards.specs.Helds.{ShardSlots}
use Rattle.mv_parts.specs.declared.seal_fault.SealFault.{SealFault}
use Rattle.mv_parts.specs.declared.seal_fault.SealFault.TheVariants.{StillLive}
use Rattle.mv_parts.specs.Journals.{Journal}
use Rattle.mv_parts.specs.Sealing.{IsJournalOf, IsSealRefusal, IsSealed}
use Rattle.mv_core.specs.Calls.{as_journal, shown_by}
use Rattle.mv_core.specs.AttemptSlots.{live_in}
use Rattle.mv_core.specs.Stores.{CallSlots}

none_shown : (slots : CallSlots) (live : List CallAttempt) → live ≡ [] → live_in slots live ≡ []
none_shown slots live none = ap (live_in slots) none

none_hidden : (slots : CallSlots) (live : List CallAttempt) → live_in slots live ≡ [] → live ≡ []
none_hidden slots [] none = refl
none_hidden slots (a ∷ as') none = absurd cc

module _ (j : Journal) (shard_slots : ShardSlots) (slots : CallSlots) where
  -- where no attempt of the journal is live, the store shows none
  pub over_shown : j.world.live ≡ [] → (shown_by j shard_slots slots).world.live ≡ []
  over_shown = none_shown slots j.world.live

  -- a seal of the journal, or a refusal to seal, is one of the journal that the store shows
  pub sealed_shown : (b : Block) (ns : List ℕ) → IsSealed j b ns → IsSealed (as_journal (shown_by j shard_slots slots)) b ns
  sealed_shown b ns s = record {
    header = s.header;
    timestamps = s.timestamps;
    calls = s.calls;
    outcomes = s.outcomes;
    replays = s.replays;
    numbers = s.numbers;
    once = s.once;
    within = s.within;
  }

  pub seal_refused : (f : Failure SealFault) → IsSealRefusal j f → IsSealRefusal (as_journal (shown_by j shard_slots slots)) f
  seal_refused failure.Memory h = over_shown h
  seal_refused (failure.Fault StillLive) h = λ none. h (none_hidden slots j.world.live none)

  pub of_shown : (l : Ledger) (h : Header) (cs : List CallData) → IsJournalOf j l h cs ↔ IsJournalOf (as_journal (shown_by j shard_slots slots)) l h cs
  of_shown l h cs = (
    λ o. record { base = o.base; header = o.header; calls = o.calls; none_live = over_shown o.none_live },
    λ o. record { base = o.base; header = o.header; calls = o.calls; none_live = none_hidden slots j.world.live o.none_live },
  )
