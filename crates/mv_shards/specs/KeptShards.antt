-- A shard as it is kept, and what is seen of it.
use Rattle.std.specs.Prelude.{◌≡◌, ℕ, ◌<◌, Some}
use Rattle.std.specs.Arc.{arc_value}
use Rattle.avm_items.specs.declared.item.Item.{Item}
use Rattle.avm_items.specs.declared.item_value.ItemValue.{ItemValue}
use Rattle.avm_items.specs.Items.{with_item}
use Rattle.avm_items.specs.LedgerItems.{at}
use Rattle.mv_chain.specs.declared.chain.Version.{Version}
use Rattle.mv_chain.specs.Versions.{newest_at}
use Rattle.mv_shards.specs.declared.shard_state.ShardState.{ShardState}
use Rattle.mv_shards.specs.Attempts.{CallAttempt}
use Rattle.mv_shards.specs.Indexes.{shard_count}
use Rattle.mv_shards.specs.KeptChains.{AreChains, ChainMap, number_in, one_marked, touched, versions_of}
use Rattle.mv_shards.specs.Shards.{Shard}

abbrev pub shard_shown : ShardState → Shard
shard_shown p = record { index = p.index; low = p.low; base = arc_value p.base; chains = touched p.chains }

pub record IsShardState (p : ShardState) : Type 0 where
  pub within : p.index < shard_count
  pub chains : AreChains (at (arc_value p.base)) p.low p.chains

-- the newest value not above a timestamp, of the item whose chain has a number
abbrev pub IsNewestValue : ℕ → ChainMap ItemValue → ℕ → ItemValue → Type 0
IsNewestValue t map number v = (x : Item) → number_in map x ≡ Some number → (first : Item → ItemValue) (d : Version ItemValue) → v ≡ (newest_at t (versions_of first map x) d).value

-- the first read of an item, by the versions of all items
pub record IsMarkedRead (first : Item → ItemValue) (old new : ChainMap ItemValue) (before after : CallAttempt) (x : Item) (v : ItemValue) : Type 0 where
  pub value : (d : Version ItemValue) → v ≡ (newest_at before.timestamp (versions_of first old x) d).value
  pub marked : (y : Item) → versions_of first new y ≡ one_marked before.timestamp x (versions_of first old) y
  pub joins : after ≡ record before { reads = with_item before.reads x v }
