-- Shards that are held together, as they are kept, and what is seen of them.
use Rattle.std.specs.Prelude.{◌≡◌, ℕ, ◌-◌, ◌<◌, ◌≤◌, List, length, map, get_or, Option, None, Some, IsSome}
use Rattle.avm_items.specs.declared.item.Item.{Item}
use Rattle.mv_shards.specs.declared.shard_state.ShardState.{ShardState}
use Rattle.mv_shards.specs.Indexes.{shard_count, shard_of}
use Rattle.mv_shards.specs.Shards.{Shard}
use Rattle.mv_shards.specs.KeptShards.{IsShardState, shard_shown}
use Rattle.mv_shards.specs.Helds.{ShardSlots}

abbrev pub seen_or_none : Option ShardState → Option Shard
seen_or_none None = None
seen_or_none (Some p) = Some (shard_shown p)

abbrev pub seen_all : List (Option ShardState) → ShardSlots
seen_all = map seen_or_none

-- a part at an index
abbrev pub IsAt : ℕ → Option ShardState → Type 0
IsAt i None = Unit {0}
IsAt i (Some p) = (p.index ≡ i) × IsShardState p

-- a part, if there is one
abbrev pub IsShardStateOrNone : Option ShardState → Type 0
IsShardStateOrNone None = Unit {0}
IsShardStateOrNone (Some p) = IsShardState p

pub record AreInSlots (parts : List (Option ShardState)) : Type 0 where
  pub count : length parts ≡ shard_count
  pub each : (i : ℕ) → IsAt i (get_or parts i None)

-- the part that an item is in is there
abbrev pub IsHeldIn : List (Option ShardState) → Item → Type 0
IsHeldIn parts x = IsSome (get_or parts (shard_of x) None)

-- there is no part from an index on
abbrev pub AreFreeFrom : List (Option ShardState) → ℕ → Type 0
AreFreeFrom parts index = (i : ℕ) → index ≤ i → get_or parts i None ≡ None

-- one more than the index of the last part, or 0 where there is none
pub record IsEnd (parts : List (Option ShardState)) (end : ℕ) : Type 0 where
  pub few : end ≤ shard_count
  pub free : AreFreeFrom parts end
  pub last : 0 < end → IsSome (get_or parts (end - 1) None)
