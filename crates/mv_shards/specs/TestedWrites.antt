-- What shards test of a commit before they write it: that what it has read is as they have it, and that its writes are in time.
use Rattle.std.specs.Prelude.{◌≡◌, ℕ, if◌then◌else◌, [], ◌∷◌, Option, None, Some}
use Rattle.teal_value.specs.declared.failure.Failure.{Failure}
use Rattle.teal_value.specs.declared.failure.Failure.TheVariants as failure
use Rattle.avm_items.specs.declared.item.Item.{Item}
use Rattle.avm_items.specs.declared.item_value.ItemValue.{ItemValue}
use Rattle.avm_items.specs.declared.item_value.ItemValue.TheVariants.{Absent}
use Rattle.avm_items.specs.Items.{ItemMap, Look}
use Rattle.avm_items.specs.SameValues.{is_same_value}
use Rattle.mv_chain.specs.declared.chain.Late.{Late}
use Rattle.mv_chain.specs.declared.chain.Version.{Version}
use Rattle.mv_chain.specs.Versions.{lateness, newest_at}
use Rattle.mv_shards.specs.declared.write_fault.WriteFault.{WriteFault}
use Rattle.mv_shards.specs.declared.write_fault.WriteFault.TheVariants as fault
use Rattle.mv_shards.specs.Helds.{ShardSlots}
use Rattle.mv_shards.specs.Writing.{AreWritten, versions_for}

abbrev pub no_version : Version ItemValue
no_version = record { timestamp = 0; mark = 0; value = Absent }

-- ---- reads

-- the least item that was read with another value
abbrev pub moved_item : Look → ItemMap → Option Item
moved_item look [] = None
moved_item look (e ∷ es) = if is_same_value (look e.0) e.1 then moved_item look es else Some e.0

-- what items have up to a timestamp in these shards
abbrev pub values_to : ShardSlots → ℕ → Look
values_to shard_slots t x = (newest_at t (versions_for shard_slots x) no_version).value

-- ---- writes

-- whether a write of an item is late in these shards, by their marks
abbrev pub lateness_in : ShardSlots → ℕ → Item → Option Late
lateness_in shard_slots t x = lateness t (newest_at t (versions_for shard_slots x) no_version)

abbrev pub late_else : Item → Option Late → Option (Item × Late) → Option (Item × Late)
late_else x None otherwise = otherwise
late_else x (Some late) otherwise = Some (x, late)

-- the least item whose write is late
abbrev pub first_late : (Item → Option Late) → ItemMap → Option (Item × Late)
first_late late [] = None
first_late late (e ∷ es) = late_else e.0 (late e.0) (first_late late es)

-- ---- a commit that is tested

-- the tests pass, and it is written
pub record IsTestedWrite (t : ℕ) (reads writes : ItemMap) (old new : ShardSlots) : Type 0 where
  pub unmoved : moved_item (values_to old t) reads ≡ None
  pub in_time : first_late (lateness_in old t) writes ≡ None
  pub written : AreWritten t reads writes old new

-- the first test that fails; where memory ran out, nothing is said of the tests
abbrev pub IsUnwritten : ℕ → ItemMap → ItemMap → ShardSlots → Failure WriteFault → Type 0
IsUnwritten t reads writes shard_slots failure.Memory = Unit {0}
IsUnwritten t reads writes shard_slots (failure.Fault (fault.Moved x)) = moved_item (values_to shard_slots t) reads ≡ Some x
IsUnwritten t reads writes shard_slots (failure.Fault (fault.Late x late)) = (moved_item (values_to shard_slots t) reads ≡ None) × (first_late (lateness_in shard_slots t) writes ≡ Some (x, late))
