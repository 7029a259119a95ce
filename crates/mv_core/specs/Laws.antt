-- What each event makes of a store. The statements of the laws.
use Rattle.std.specs.Prelude.{◌≡◌, ℕ, ◌+◌, ◌-◌, ◌<◌, ◌≤◌, length, set, get_or, None, Some}
use Rattle.avm_ledger.specs.declared.header.Header.{Header}
use Rattle.avm_ledger.specs.Ledgers.{Ledger}
use Rattle.avm_items.specs.declared.call_data.CallData.{CallData}
use Rattle.avm_items.specs.declared.item.Item.{Item}
use Rattle.avm_items.specs.declared.item_value.ItemValue.{ItemValue}
use Rattle.avm_items.specs.LedgerItems.{at}
use Rattle.avm_laws.specs.LedgerLooks.{IsOfLedger}
use Rattle.std.specs.Prelude.{List}
use Rattle.mv_history.specs.History.{commit_count}
use Rattle.mv_history.specs.Schedule.{IsConsistentWorld}
use Rattle.mv_history.specs.World.{after_abandon, after_begin, fresh_attempt, greatest_mark, live_count, low_after_prune}
use Rattle.mv_chain.specs.Stores.{marks_of}
use Rattle.mv_parts.specs.CallHistory.{CallAttempt, CallWorld, meaning_of, same_item}
use Rattle.mv_shards.specs.Indexes.{shard_of}
use Rattle.mv_shards.specs.Shards.{Shard}
use Rattle.mv_shards.specs.Shards as shard
use Rattle.mv_shards.specs.Helds.{ArePruned, ShardSlots, shard_for}
use Rattle.mv_shards.specs.Writing.{versions_for}
use Rattle.mv_core.specs.AttemptSlots.{HasLiveNumber}
use Rattle.mv_core.specs.Stores.{CallSlots, IsFirstRead, IsKeptStore, IsPrune, IsReadAgain, marks_in, store_shown}

-- the marks that are listed are those of the versions, so that the facts hold of the world that is seen
abbrev pub EveryMarkIsAVersions : Type 0
EveryMarkIsAVersions =
    (base : Ledger) (header : Header) (calls : List CallData) (w : CallWorld) (shard_slots : ShardSlots) (slots : CallSlots) → IsKeptStore base header calls w shard_slots slots
    → ((x : Item) (version : ℕ) → greatest_mark same_item (marks_in shard_slots) x version ≡ marks_of (versions_for shard_slots) x version)
    × IsConsistentWorld same_item IsOfLedger (meaning_of header calls) (at base) (store_shown base header calls w shard_slots slots).world

-- a call begins, where it is neither committed nor live
abbrev pub EveryBeginLeavesAStore : Type 0
EveryBeginLeavesAStore =
    (base : Ledger) (header : Header) (calls : List CallData) (w : CallWorld) (shard_slots : ShardSlots) (slots : CallSlots) → IsKeptStore base header calls w shard_slots slots
    → (n : ℕ) → 0 < n → n ≤ length calls → commit_count n w.entries ≡ 0 → live_count n w.live ≡ 0
    → IsKeptStore base header calls (after_begin w n) shard_slots (set slots (n - 1) (Some (fresh_attempt n (w.clock + 1))))
    × (store_shown base header calls (after_begin w n) shard_slots (set slots (n - 1) (Some (fresh_attempt n (w.clock + 1)))) ≡ record (store_shown base header calls w shard_slots slots) { world = after_begin (store_shown base header calls w shard_slots slots).world n })

-- a live attempt ends, and its slot is free
abbrev pub EveryAbandonLeavesAStore : Type 0
EveryAbandonLeavesAStore =
    (base : Ledger) (header : Header) (calls : List CallData) (w : CallWorld) (shard_slots : ShardSlots) (slots : CallSlots) → IsKeptStore base header calls w shard_slots slots
    → (n t : ℕ) → 0 < n → n - 1 < length slots → HasLiveNumber w.live n t
    → IsKeptStore base header calls (after_abandon w t) shard_slots (set slots (n - 1) None)
    × (store_shown base header calls (after_abandon w t) shard_slots (set slots (n - 1) None) ≡ record (store_shown base header calls w shard_slots slots) { world = after_abandon (store_shown base header calls w shard_slots slots).world t })

-- the attempt in a call's slot reads from the item's shard; it is never below the low mark there
pub record LeavesReadStore (base : Ledger) (header : Header) (calls : List CallData) (w : CallWorld) (shard_slots : ShardSlots) (slots : CallSlots) (n : ℕ) (before after : CallAttempt) (x : Item) (v : ItemValue) (s new : Shard) : Type 0 where
  pub first : shard.IsFirstRead s new before after x v
      → IsKeptStore base header calls w (set shard_slots (shard_of x) (Some new)) (set slots (n - 1) (Some after))
      × IsFirstRead (store_shown base header calls w shard_slots slots) (store_shown base header calls w (set shard_slots (shard_of x) (Some new)) (set slots (n - 1) (Some after))) n before.timestamp x v
  pub again : shard.IsReadAgain s new before after x v
      → IsKeptStore base header calls w (set shard_slots (shard_of x) (Some new)) (set slots (n - 1) (Some after))
      × IsReadAgain (store_shown base header calls w shard_slots slots) (store_shown base header calls w (set shard_slots (shard_of x) (Some new)) (set slots (n - 1) (Some after))) n before.timestamp x v
  pub never_pruned : shard.IsPruned s before x → ⊥

abbrev pub EveryReadLeavesAStore : Type 0
EveryReadLeavesAStore =
    (base : Ledger) (header : Header) (calls : List CallData) (w : CallWorld) (shard_slots : ShardSlots) (slots : CallSlots) → IsKeptStore base header calls w shard_slots slots
    → (n : ℕ) (before after : CallAttempt) (x : Item) (v : ItemValue) (s new : Shard) → 0 < n → n - 1 < length slots → get_or slots (n - 1) None ≡ Some before → shard_for shard_slots x ≡ Some s
    → LeavesReadStore base header calls w shard_slots slots n before after x v s new

-- the low mark rises, and each shard is pruned there
abbrev pub EveryPruneLeavesAStore : Type 0
EveryPruneLeavesAStore =
    (base : Ledger) (header : Header) (calls : List CallData) (w : CallWorld) (shard_slots : ShardSlots) (slots : CallSlots) → IsKeptStore base header calls w shard_slots slots
    → (t : ℕ) (new : ShardSlots) → ArePruned (low_after_prune w t) shard_slots new
    → IsKeptStore base header calls (record w { low = low_after_prune w t }) new slots
    × IsPrune (store_shown base header calls w shard_slots slots) (store_shown base header calls (record w { low = low_after_prune w t }) new slots) t
