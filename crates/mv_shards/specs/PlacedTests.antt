-- What items have in parts as they are kept.
use Rattle.std.specs.Prelude.{◌≡◌, ◌≢◌, ℕ, Option, None, Some}
use Rattle.std.specs.List.{AllByRecursion}
use Rattle.teal_value.specs.declared.failure.Failure.{Failure}
use Rattle.teal_value.specs.declared.failure.Failure.TheVariants as failure
use Rattle.avm_items.specs.declared.item.Item.{Item}
use Rattle.avm_items.specs.declared.item_value.ItemValue.{ItemValue}
use Rattle.avm_items.specs.Items.{ItemMap, Look}
use Rattle.mv_chain.specs.declared.chain.Late.{Late}
use Rattle.mv_chain.specs.declared.chain.Version.{Version}
use Rattle.mv_chain.specs.Versions.{lateness, newest_at}
use Rattle.mv_shards.specs.Indexes.{shard_of}
use Rattle.mv_shards.specs.KeptChains.{AreChains, versions_of}
use Rattle.mv_shards.specs.KeptHelds.{IsHeldIn}
use Rattle.mv_shards.specs.SlotWriting.{AreWrittenSlots, StateSlots, chains_at, chains_for, first_at}
use Rattle.mv_shards.specs.TestedWrites.{first_late, moved_item, no_version}
use Rattle.mv_shards.specs.declared.write_fault.WriteFault.{WriteFault}
use Rattle.mv_shards.specs.declared.write_fault.WriteFault.TheVariants as fault

-- what a write at a timestamp asks: the parts are held, they are not pruned above it, and no item has the version that is written
pub record IsWritable (t : ℕ) (reads writes : ItemMap) (parts : StateSlots) : Type 0 where
  pub reads_held : AllByRecursion (λ e. IsHeldIn parts e.0) reads
  pub writes_held : AllByRecursion (λ e. IsHeldIn parts e.0) writes
  pub chains : (i : ℕ) → AreChains (first_at parts i) t (chains_at parts i)
  pub absent : AllByRecursion (λ e. AllByRecursion (λ v. v.timestamp ≢ t) (versions_of (first_at parts (shard_of e.0)) (chains_for parts e.0) e.0)) writes

-- the newest version of an item not above a timestamp
abbrev pub newest_there : ℕ → StateSlots → Item → Version ItemValue
newest_there t parts x = newest_at t (versions_of (first_at parts (shard_of x)) (chains_for parts x) x) no_version

abbrev pub value_there : ℕ → StateSlots → Look
value_there t parts x = (newest_there t parts x).value

-- whether a write of an item is late
abbrev pub lateness_there : ℕ → StateSlots → Item → Option Late
lateness_there t parts x = lateness t (newest_there t parts x)

-- the tests pass, and it is written
pub record IsTestedPlaced (t : ℕ) (reads writes : ItemMap) (old new : StateSlots) : Type 0 where
  pub unmoved : moved_item (value_there t old) reads ≡ None
  pub in_time : first_late (lateness_there t old) writes ≡ None
  pub written : AreWrittenSlots t reads writes old new

-- the first test that fails, or that memory ran out
abbrev pub IsUnplaced : ℕ → ItemMap → ItemMap → StateSlots → Failure WriteFault → Type 0
IsUnplaced t reads writes parts failure.Memory = Unit {0}
IsUnplaced t reads writes parts (failure.Fault (fault.Moved x)) = moved_item (value_there t parts) reads ≡ Some x
IsUnplaced t reads writes parts (failure.Fault (fault.Late x late)) = (moved_item (value_there t parts) reads ≡ None) × (first_late (lateness_there t parts) writes ≡ Some (x, late))
