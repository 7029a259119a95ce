-- What the tests of a commit find on the way.
use Rattle.std.specs.Prelude.{◌≢◌, ℕ, ◌<◌, ◌≤◌, nat_lt, if◌then◌else◌, List, Option, None}
use Rattle.std.specs.List.{AllByRecursion}
use Rattle.std.specs.Map.{lookup}
use Rattle.avm_ledger.specs.Ledgers.{Ledger}
use Rattle.avm_items.specs.declared.item.Item.{Item}
use Rattle.avm_items.specs.declared.item_value.ItemValue.{ItemValue}
use Rattle.avm_items.specs.LedgerItems.{at}
use Rattle.mv_chain.specs.declared.chain.Late.{Late as LateVersion}
use Rattle.mv_history.specs.History.{version_below}
use Rattle.mv_shards.specs.Helds.{ShardSlots}
use Rattle.mv_parts.specs.CallHistory.{CallEntry, same_item}
use Rattle.mv_parts.specs.Commits.{late_after, later}
use Rattle.mv_shards.specs.TestedWrites.{lateness_in}
use Rattle.mv_parts.specs.Journals.{Journal, greatest_reader}

-- Timestamps are positive. No entry has this one, and the low mark is not above it.
pub record IsOpenAt (j : Journal) (t : ℕ) : Type 0 where
  pub positive : 0 < t
  pub unused : AllByRecursion (λ (e : CallEntry). e.timestamp ≢ t) j.world.entries
  pub above : j.world.low ≤ t

-- what an entry wrote of an item, if it is below a timestamp
abbrev pub written_below : Item → ℕ → CallEntry → Option ItemValue
written_below x t e = if nat_lt e.timestamp t then lookup (same_item x) e.writes else None

-- whether a write of an item is late by what the entries read of its version below the timestamp
abbrev pub lateness_by_readers : Ledger → List CallEntry → ℕ → Item → Option LateVersion
lateness_by_readers base es t x = late_after t (version_below same_item (at base) es t x).0 (greatest_reader base es x (version_below same_item (at base) es t x).0)

-- by that, or in the shards that are held
abbrev pub lateness_below : Ledger → List CallEntry → ShardSlots → ℕ → Item → Option LateVersion
lateness_below base es held t x = later (lateness_by_readers base es t x) (lateness_in held t x)
