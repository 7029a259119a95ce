-- How a commit is made on shards as they are kept: what each function of this crate leaves.
use Rattle.std.specs.Prelude.{◌≡◌, ℕ, ◌<◌, ◌≤◌, ◌==◌, ◌⊎◌, Bool, true, false, if◌then◌else◌, List, [], ◌∷◌, get_or, length, Option, None, Some}
use Rattle.std.specs.Arc.{arc_value}
use Rattle.std.specs.List.{AllByRecursion}
use Rattle.std.specs.Ordering.{is_eq}
use Rattle.avm_items.specs.declared.item.Item.{Item}
use Rattle.avm_items.specs.declared.item_value.ItemValue.{ItemValue}
use Rattle.avm_items.specs.declared.item_value.ItemValue.TheVariants.{Absent}
use Rattle.avm_items.specs.Items.{IsInItemOrder, ItemMap, item_cmp}
use Rattle.avm_items.specs.LedgerItems.{at}
use Rattle.avm_ledger.specs.Ledgers.{Ledger}
use Rattle.mv_shards.specs.declared.shard_state.ShardState.{ShardState}
use Rattle.mv_shards.specs.declared.commit_scratch.CommitScratch.{CommitScratch}
use Rattle.mv_shards.specs.declared.chain_ref.ChainRef.{ChainRef}
use Rattle.mv_shards.specs.Indexes.{shard_of}
use Rattle.mv_shards.specs.KeptChains.{AllVersions, AreChains, AreNumbersKept, ChainMap, HasRoomFor, IsGrown, IsReadable, IsRoomier, TakesVersion, chain_in, number_in, one_installed, one_marked, versions_of}
use Rattle.mv_shards.specs.Shards.{Shard, versions_held}
use Rattle.mv_shards.specs.Helds.{ShardSlots, shard_for}
use Rattle.mv_shards.specs.Writing.{committed_versions, has_timestamp}

-- ---- where a commit can't write

-- its low mark is above the timestamp
abbrev pub IsAbove : ℕ → Option Shard → Type 0
IsAbove t None = ⊥
IsAbove t (Some s) = t < s.low

-- an item has a version at the timestamp
abbrev pub has_timestamp_in : ℕ → Option Shard → Item → Bool
has_timestamp_in t None x = false
has_timestamp_in t (Some s) x = has_timestamp t (versions_held s x)

-- the index of the item's shard, which is below another one and has such a version
pub record IsFoundBelow (t : ℕ) (x : Item) (least : ℕ) (shard_slots : ShardSlots) (found : ℕ) : Type 0 where
  pub own : found ≡ shard_of x
  pub below : found < least
  pub has : has_timestamp_in t (shard_for shard_slots x) x ≡ true

-- the other one, where there is none
pub record IsNotBelow (t : ℕ) (x : Item) (least : ℕ) (shard_slots : ShardSlots) (found : ℕ) : Type 0 where
  pub same : found ≡ least
  pub none : shard_of x < least → has_timestamp_in t (shard_for shard_slots x) x ≡ false

abbrev pub IsLeastWith : ℕ → Item → ℕ → ShardSlots → ℕ → Type 0
IsLeastWith t x least shard_slots found = IsFoundBelow t x least shard_slots found ⊎ IsNotBelow t x least shard_slots found

-- ---- as they are kept

abbrev pub StateSlots : Type 0
StateSlots = List (Option ShardState)

-- the values that items without a chain have at an index
abbrev pub first_or : Option ShardState → Item → ItemValue
first_or None x = Absent
first_or (Some p) x = at (arc_value p.base) x

abbrev pub chains_or : Option ShardState → ChainMap ItemValue
chains_or None = []
chains_or (Some p) = p.chains

abbrev pub first_at : StateSlots → ℕ → Item → ItemValue
first_at parts i = first_or (get_or parts i None)

abbrev pub chains_at : StateSlots → ℕ → ChainMap ItemValue
chains_at parts i = chains_or (get_or parts i None)

abbrev pub chains_for : StateSlots → Item → ChainMap ItemValue
chains_for parts x = chains_at parts (shard_of x)

-- a part but for its chains
pub record Frame : Type 0 where
  pub index : ℕ
  pub low : ℕ
  pub base : Ledger

abbrev pub frame_or : Option ShardState → Option Frame
frame_or None = None
frame_or (Some p) = Some (record { index = p.index; low = p.low; base = arc_value p.base })

abbrev pub frame_at : StateSlots → ℕ → Option Frame
frame_at parts i = frame_or (get_or parts i None)

-- chains may have been made, and rooms
pub record AreGrown (old new : StateSlots) : Type 0 where
  pub count : length new ≡ length old
  pub frames : (i : ℕ) → frame_at new i ≡ frame_at old i
  pub maps : (i : ℕ) → IsGrown (first_at old i) (chains_at old i) (chains_at new i)

-- every chain of every part keeps its number
abbrev pub AreChainRefsKept : StateSlots → StateSlots → Type 0
AreChainRefsKept old new = (i : ℕ) → AreNumbersKept (chains_at old i) (chains_at new i)

-- no chain was lost, and no room
abbrev pub AreRoomier : StateSlots → StateSlots → Type 0
AreRoomier old new = (i : ℕ) → IsRoomier (chains_at old i) (chains_at new i)

-- an item read at a timestamp, in a map that has it or hasn't
pub record IsMarkedMap (own : Bool) (t : ℕ) (item : Item) (old new : ChainMap ItemValue) : Type 0 where
  pub versions : (first : Item → ItemValue) (x : Item) → versions_of first new x ≡ (if own then one_marked t item (versions_of first old) else versions_of first old) x
  pub kept : (first : Item → ItemValue) (low : ℕ) → AreChains first low old → AreChains first low new
  pub readable : (x : Item) → IsReadable t old x → IsReadable t new x
  pub takes : (x : Item) → TakesVersion t old x → TakesVersion t new x
  pub numbers : AreNumbersKept old new

pub record IsMarkedItem (t : ℕ) (item : Item) (old new : StateSlots) : Type 0 where
  pub count : length new ≡ length old
  pub frames : (i : ℕ) → frame_at new i ≡ frame_at old i
  pub maps : (i : ℕ) → IsMarkedMap (shard_of item == i) t item (chains_at old i) (chains_at new i)

-- an item written at a timestamp, in a map that has it or hasn't
pub record IsInstalledMap (own : Bool) (t : ℕ) (item : Item) (value : ItemValue) (old new : ChainMap ItemValue) : Type 0 where
  pub versions : (first : Item → ItemValue) (x : Item) → versions_of first new x ≡ (if own then one_installed t item value (versions_of first old) else versions_of first old) x
  pub kept : (first : Item → ItemValue) (low : ℕ) → low ≤ t → AreChains first low old → AreChains first low new
  pub others : (x : Item) → is_eq (item_cmp x item) ≡ false → chain_in new x ≡ chain_in old x
  pub numbers : AreNumbersKept old new

pub record IsInstalledItem (t : ℕ) (item : Item) (value : ItemValue) (old new : StateSlots) : Type 0 where
  pub count : length new ≡ length old
  pub frames : (i : ℕ) → frame_at new i ≡ frame_at old i
  pub maps : (i : ℕ) → IsInstalledMap (shard_of item == i) t item value (chains_at old i) (chains_at new i)

-- the item's chain goes back to a timestamp
abbrev pub IsReadableIn : ℕ → StateSlots → Item → Type 0
IsReadableIn t parts x = IsReadable t (chains_for parts x) x

-- the item's chain takes a version at a timestamp
abbrev pub TakesVersionIn : ℕ → StateSlots → Item → Type 0
TakesVersionIn t parts x = TakesVersion t (chains_for parts x) x

-- each item, once, has a chain that takes the version
abbrev pub AreReady : ℕ → StateSlots → ItemMap → Type 0
AreReady t parts [] = Unit {0}
AreReady t parts (e ∷ es) = TakesVersionIn t parts e.0 × AllByRecursion (λ f. is_eq (item_cmp f.0 e.0) ≡ false) es × AreReady t parts es

-- ---- where the chains of items stand

-- where an item's chain stands
pub record IsChainRef (parts : StateSlots) (item : Item) (spot : ChainRef) : Type 0 where
  pub shard : spot.shard ≡ shard_of item
  pub number : number_in (chains_for parts item) item ≡ Some spot.number

-- items beside other things, in the same order
abbrev pub AreBeside : {B : Type 0} → (Item × ItemValue → B → Type 0) → ItemMap → List B → Type 0
AreBeside P [] [] = Unit {0}
AreBeside P (e ∷ es) (b ∷ bs) = P e b × AreBeside P es bs
AreBeside P _ _ = ⊥

-- items beside the spots of their chains
abbrev pub AreChainRefs : StateSlots → ItemMap → List ChainRef → Type 0
AreChainRefs parts = AreBeside (λ e s. IsChainRef parts e.0 s)

-- a value that is to be written, beside where its item's chain stands
pub record IsPlaced (parts : StateSlots) (e : Item × ItemValue) (placed : ChainRef × ItemValue) : Type 0 where
  pub spot : IsChainRef parts e.0 placed.0
  pub value : placed.1 ≡ e.1

-- items beside their values that are to be written
abbrev pub ArePlaced : StateSlots → ItemMap → List (ChainRef × ItemValue) → Type 0
ArePlaced parts = AreBeside (IsPlaced parts)

-- these, and the chains have room
abbrev pub AreRoomy : StateSlots → ItemMap → List (ChainRef × ItemValue) → Type 0
AreRoomy parts = AreBeside (λ e placed. IsPlaced parts e placed × HasRoomFor (chains_for parts e.0) e.0)

-- where the chains stand of what was read, and of what is to be written: these have room
pub record IsScratch (parts : StateSlots) (reads writes : ItemMap) (made : CommitScratch) : Type 0 where
  pub spots : AreChainRefs parts reads made.reads.items
  pub roomy : AreRoomy parts writes made.writes.items
  pub rising_reads : IsInItemOrder reads
  pub rising_writes : IsInItemOrder writes

-- a chain that goes back to a timestamp stands there
pub record IsReadableRef (t : ℕ) (parts : StateSlots) (spot : ChainRef) : Type 0 where
  pub item : Item
  pub here : IsChainRef parts item spot
  pub readable : IsReadableIn t parts item

-- a chain that takes a version at a timestamp stands there
pub record TakesVersionThere (t : ℕ) (parts : StateSlots) (spot : ChainRef) : Type 0 where
  pub item : Item
  pub here : IsChainRef parts item spot
  pub takes : TakesVersionIn t parts item

-- chains of items that go back to a timestamp stand there
pub record AreReadableRefs (t : ℕ) (parts : StateSlots) (spots : List ChainRef) : Type 0 where
  pub items : ItemMap
  pub here : AreChainRefs parts items spots
  pub readable : AllByRecursion (λ e. IsReadableIn t parts e.0) items

-- the values are of items, each once, whose chains take the version
pub record AreReadyPlaced (t : ℕ) (parts : StateSlots) (placed : List (ChainRef × ItemValue)) : Type 0 where
  pub items : ItemMap
  pub here : ArePlaced parts items placed
  pub ready : AreReady t parts items

-- ---- what is written

-- the items of a shard among those read at a timestamp, one after another
abbrev pub versions_marked : ℕ → ℕ → ItemMap → AllVersions ItemValue → AllVersions ItemValue
versions_marked index t [] all = all
versions_marked index t (e ∷ es) all = versions_marked index t es (if shard_of e.0 == index then one_marked t e.0 all else all)

-- the items of a shard among those written at a timestamp, one after another
abbrev pub versions_installed : ℕ → ℕ → ItemMap → AllVersions ItemValue → AllVersions ItemValue
versions_installed index t [] all = all
versions_installed index t (e ∷ es) all = versions_installed index t es (if shard_of e.0 == index then one_installed t e.0 e.1 all else all)

abbrev pub versions_written : ℕ → ℕ → ItemMap → ItemMap → AllVersions ItemValue → AllVersions ItemValue
versions_written index t reads writes all = versions_installed index t writes (versions_marked index t reads all)

pub record AreMarkedAt (t : ℕ) (reads : ItemMap) (old new : StateSlots) : Type 0 where
  pub count : length new ≡ length old
  pub frames : (i : ℕ) → frame_at new i ≡ frame_at old i
  pub versions : (i : ℕ) (first : Item → ItemValue) (x : Item) → versions_of first (chains_at new i) x ≡ versions_marked i t reads (versions_of first (chains_at old i)) x
  pub kept : (i : ℕ) (first : Item → ItemValue) (low : ℕ) → AreChains first low (chains_at old i) → AreChains first low (chains_at new i)
  pub takes : (i : ℕ) (x : Item) → TakesVersion t (chains_at old i) x → TakesVersion t (chains_at new i) x
  pub numbers : AreChainRefsKept old new

pub record AreInstalledAt (t : ℕ) (writes : ItemMap) (old new : StateSlots) : Type 0 where
  pub count : length new ≡ length old
  pub frames : (i : ℕ) → frame_at new i ≡ frame_at old i
  pub versions : (i : ℕ) (first : Item → ItemValue) (x : Item) → versions_of first (chains_at new i) x ≡ versions_installed i t writes (versions_of first (chains_at old i)) x
  pub kept : (i : ℕ) (first : Item → ItemValue) (low : ℕ) → low ≤ t → AreChains first low (chains_at old i) → AreChains first low (chains_at new i)

-- The parts after the reads and the writes of a commit, with the values that items without a chain had at each index.
pub record AreWrittenSlots (t : ℕ) (reads writes : ItemMap) (old new : StateSlots) : Type 0 where
  pub count : length new ≡ length old
  pub frames : (i : ℕ) → frame_at new i ≡ frame_at old i
  pub versions : (i : ℕ) (x : Item) → versions_of (first_at old i) (chains_at new i) x
      ≡ (if shard_of x == i then committed_versions t reads writes x (versions_of (first_at old i) (chains_at old i) x) else versions_of (first_at old i) (chains_at old i) x)
  pub kept : (i : ℕ) (low : ℕ) → low ≤ t → AreChains (first_at old i) low (chains_at old i) → AreChains (first_at old i) low (chains_at new i)
