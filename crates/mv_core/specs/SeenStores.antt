-- What is seen of a store.
use Rattle.std.specs.Prelude.{List}
use Rattle.avm_ledger.specs.declared.header.Header.{Header}
use Rattle.avm_ledger.specs.Ledgers.{Ledger}
use Rattle.avm_items.specs.declared.call_data.CallData.{CallData}
use Rattle.mv_parts.specs.CallHistory.{CallWorld}
use Rattle.mv_shards.specs.Helds.{ShardSlots}

-- what is seen of it: the world that its events lead to, and the versions of all items, in shards
pub record Store : Type 0 where
  pub base : Ledger
  pub header : Header
  pub calls : List CallData
  pub world : CallWorld
  pub shard_slots : ShardSlots
