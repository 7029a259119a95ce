-- All shards, held together.
use Rattle.std.specs.Prelude.{◌≡◌, ℕ, ◌<◌, ◌≤◌, Option, None, Some, get_or}
use Rattle.avm_ledger.specs.Ledgers.{Ledger}
use Rattle.mv_shards.specs.Helds.{ShardSlots}
use Rattle.mv_shards.specs.Indexes.{shard_count}
use Rattle.mv_shards.specs.Shards.{Shard}

-- the shard of an index, over the ledger and with the low mark
abbrev pub IsShardOver : Ledger → ℕ → ℕ → Option Shard → Type 0
IsShardOver base low index None = ⊥
IsShardOver base low index (Some s) = (s.index ≡ index) × (s.low ≡ low) × (s.base ≡ base)

-- all are there, each over the ledger and with the low mark
pub record AreAllOver (base : Ledger) (low : ℕ) (shard_slots : ShardSlots) : Type 0 where
  pub beyond : (i : ℕ) → shard_count ≤ i → get_or shard_slots i None ≡ None
  pub each : (i : ℕ) → i < shard_count → IsShardOver base low i (get_or shard_slots i None)
