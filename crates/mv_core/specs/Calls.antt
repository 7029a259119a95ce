-- A store by its journal, and when its calls begin.
use Rattle.std.specs.Prelude.{List}
use Rattle.avm_ledger.specs.declared.header.Header.{Header}
use Rattle.avm_ledger.specs.Ledgers.{Ledger}
use Rattle.avm_items.specs.declared.call_data.CallData.{CallData}
use Rattle.mv_history.specs.World.{first_world}
use Rattle.mv_shards.specs.Helds.{ShardSlots}
use Rattle.mv_parts.specs.Agreeing.{AllAgree}
use Rattle.mv_parts.specs.Journals.{Journal}
use Rattle.mv_parts.specs.Opening.{first_slots}
use Rattle.mv_core.specs.Stores.{CallSlots, IsKeptStore, store_shown}
use Rattle.mv_core.specs.SeenStores.{Store}

-- what a journal with all marks and reads would show
abbrev pub as_journal : Store → Journal
as_journal s = record { base = s.base; header = s.header; calls = s.calls; world = s.world }

abbrev pub shown_by : Journal → ShardSlots → CallSlots → Store
shown_by j shard_slots slots = store_shown j.base j.header j.calls j.world shard_slots slots

-- what a store keeps, with shards that agree with the journal
pub record IsKeptByJournal (j : Journal) (shard_slots : ShardSlots) (slots : CallSlots) : Type 0 where
  pub kept : IsKeptStore j.base j.header j.calls j.world shard_slots slots
  pub agree : AllAgree j shard_slots

-- ---- a store in which nothing has begun

abbrev pub first_store : Ledger → Header → List CallData → Store
first_store base header calls = record { base = base; header = header; calls = calls; world = first_world; shard_slots = first_slots base }
