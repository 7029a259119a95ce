-- The chains of a map as they are kept, and what each change of them leaves.
use Rattle.std.specs.Prelude.{◌≡◌, ◌≢◌, ℕ, zero, suc, ◌<◌, ◌≤◌, ◌==◌, ◌&&◌, Bool, true, false, if◌then◌else◌, List, [], ◌∷◌, Option, None, Some, option_map}
use Rattle.std.specs.Ordering.{is_eq}
use Rattle.std.specs.List.{AllByRecursion}
use Rattle.std.specs.Map.{lookup}
use Rattle.std.specs.BTreeMap.{is_at}
use Rattle.avm_items.specs.declared.item.Item.{Item}
use Rattle.avm_items.specs.Items.{item_cmp}
use Rattle.mv_chain.specs.declared.chain.Version.{Version}
use Rattle.mv_chain.specs.Versions.{Versions, IsChain, oldest_timestamp, versions_from, versions_read_at, versions_with}
use Rattle.mv_shards.specs.Chains.{VersionLists, first_version, with_versions}
use Rattle.mv_shards.specs.NumberMaps.{NotedNumbers, number_by_item, number_by_mix}

-- in the order in which they were made: a chain's number is its index, from 0
abbrev pub ChainMap : Type 0 → Type 0
ChainMap V = List (Item × Versions V)

abbrev pub chain_in : {V : Type 0} → ChainMap V → Item → Option (Versions V)
chain_in map x = lookup (is_at (item_cmp x)) map

-- the number of an item's chain
abbrev pub number_in : {V : Type 0} → ChainMap V → Item → Option ℕ
number_in [] x = None
number_in (c ∷ cs) x = if is_eq (item_cmp x c.0) then Some 0 else option_map suc (number_in cs x)

-- no item has two chains
abbrev pub AreOnce : {V : Type 0} → ChainMap V → Type 0
AreOnce [] = Unit {0}
AreOnce (c ∷ cs) = (chain_in cs c.0 ≡ None) × AreOnce cs

-- whether the chain of a number, if there is one, is an item's
abbrev pub is_of : {V : Type 0} → ChainMap V → ℕ → Item → Bool
is_of [] n x = false
is_of (c ∷ cs) zero x = is_eq (item_cmp x c.0)
is_of (c ∷ cs) (suc n) x = is_of cs n x

-- the number that an item's mix leads to, if it is the item's, and else the one found by the item
abbrev pub number_of : {V : Type 0} → ChainMap V → Item → Option ℕ → Option ℕ → Option ℕ
number_of map x None own = own
number_of map x (Some n) own = if is_of map n x then Some n else own

-- the numbers that are noted are those of the chains
pub record AreNumbered {V : Type 0} (noted : NotedNumbers) (map : ChainMap V) : Type 0 where
  pub once : AreOnce map
  pub found : (x : Item) → number_of map x (number_by_mix noted x) (number_by_item noted x) ≡ number_in map x

abbrev pub list_or : {V : Type 0} → V → Option (Versions V) → List (Version V)
list_or first None = first_version first
list_or first (Some chain) = chain.list

abbrev pub AllVersions : Type 0 → Type 0
AllVersions V = Item → List (Version V)

-- the versions of every item
abbrev pub versions_of : {V : Type 0} → (Item → V) → ChainMap V → AllVersions V
versions_of first map x = list_or (first x) (chain_in map x)

-- a first version alone, which nothing has read
abbrev pub is_untouched : {V : Type 0} → List (Version V) → Bool
is_untouched [] = false
is_untouched (v ∷ []) = (v.timestamp == 0) && (v.mark == 0)
is_untouched (v ∷ w ∷ vs) = false

-- what is seen, by rising item: chains that are untouched are as if they weren't there
abbrev pub touched : {V : Type 0} → ChainMap V → VersionLists V
touched [] = []
touched (c ∷ cs) = if is_untouched c.1.list then touched cs else with_versions (touched cs) c.0 c.1.list

-- No item has two chains, an untouched chain has the first version, and each item has versions that rise, down to the low mark.
pub record AreChains {V : Type 0} (first : Item → V) (low : ℕ) (map : ChainMap V) : Type 0 where
  pub once : AreOnce map
  pub based : (x : Item) → is_untouched (versions_of first map x) ≡ true → versions_of first map x ≡ first_version (first x)
  pub chains : (x : Item) → IsChain (versions_of first map x)
  pub old_enough : (x : Item) → oldest_timestamp (versions_of first map x) ≤ low

-- ---- pruning

-- each chain is pruned at a timestamp, in its place
abbrev pub ArePrunedChains : {V : Type 0} → ℕ → ChainMap V → ChainMap V → Type 0
ArePrunedChains t [] [] = Unit {0}
ArePrunedChains t (c ∷ cs) (d ∷ ds) = (d.0 ≡ c.0) × (d.1.list ≡ versions_from t c.1.list) × ArePrunedChains t cs ds
ArePrunedChains t _ _ = ⊥

-- ---- growth

-- chains may have been made, and rooms; no versions changed, and so nothing that is seen
pub record IsGrown {V : Type 0} (first : Item → V) (old new : ChainMap V) : Type 0 where
  pub versions : (x : Item) → versions_of first new x ≡ versions_of first old x
  pub kept : (low : ℕ) → AreChains first low old → AreChains first low new
  pub seen : (low : ℕ) → AreChains first low old → touched new ≡ touched old

-- the item has a chain with room for one more version
pub record HasRoomFor {V : Type 0} (map : ChainMap V) (x : Item) : Type 0 where
  pub chain : Versions V
  pub found : chain_in map x ≡ Some chain
  pub room : 0 < chain.room

-- every chain keeps its number
abbrev pub AreNumbersKept : {V : Type 0} → ChainMap V → ChainMap V → Type 0
AreNumbersKept old new = (x : Item) (n : ℕ) → number_in old x ≡ Some n → number_in new x ≡ Some n

-- no chain was lost, and no room
pub record IsRoomier {V : Type 0} (old new : ChainMap V) : Type 0 where
  pub numbers : AreNumbersKept old new
  pub rooms : (x : Item) → HasRoomFor old x → HasRoomFor new x

-- ---- marks and writes

-- the item has a chain that goes back to a timestamp
pub record IsReadable {V : Type 0} (t : ℕ) (map : ChainMap V) (x : Item) : Type 0 where
  pub chain : Versions V
  pub found : chain_in map x ≡ Some chain
  pub old_enough : oldest_timestamp chain.list ≤ t

-- the item has a chain that takes a version at a timestamp
pub record TakesVersion {V : Type 0} (t : ℕ) (map : ChainMap V) (x : Item) : Type 0 where
  pub chain : Versions V
  pub found : chain_in map x ≡ Some chain
  pub room : 0 < chain.room
  pub old_enough : oldest_timestamp chain.list ≤ t
  pub absent : AllByRecursion (λ v. v.timestamp ≢ t) chain.list

-- the chain of a number is an item's, and goes back to a timestamp
pub record IsReadableAt {V : Type 0} (t : ℕ) (map : ChainMap V) (number : ℕ) : Type 0 where
  pub item : Item
  pub numbered : number_in map item ≡ Some number
  pub readable : IsReadable t map item

-- the chain of a number is an item's, and takes a version at a timestamp
pub record TakesVersionAt {V : Type 0} (t : ℕ) (map : ChainMap V) (number : ℕ) : Type 0 where
  pub item : Item
  pub numbered : number_in map item ≡ Some number
  pub takes : TakesVersion t map item

-- one item read at a timestamp
abbrev pub one_marked : {V : Type 0} → ℕ → Item → AllVersions V → AllVersions V
one_marked t item all x = if is_eq (item_cmp x item) then versions_read_at t (all item) else all x

-- one item written at a timestamp
abbrev pub one_installed : {V : Type 0} → ℕ → Item → V → AllVersions V → AllVersions V
one_installed t item value all x = if is_eq (item_cmp x item) then versions_with t value (all item) else all x

pub record IsMarked {V : Type 0} (t : ℕ) (item : Item) (old new : ChainMap V) : Type 0 where
  pub versions : (first : Item → V) (x : Item) → versions_of first new x ≡ one_marked t item (versions_of first old) x
  pub kept : (first : Item → V) (low : ℕ) → AreChains first low old → AreChains first low new
  pub readable : (x : Item) → IsReadable t old x → IsReadable t new x
  pub takes : (x : Item) → TakesVersion t old x → TakesVersion t new x
  pub numbers : AreNumbersKept old new

pub record IsInstalled {V : Type 0} (t : ℕ) (item : Item) (value : V) (old new : ChainMap V) : Type 0 where
  pub versions : (first : Item → V) (x : Item) → versions_of first new x ≡ one_installed t item value (versions_of first old) x
  pub kept : (first : Item → V) (low : ℕ) → low ≤ t → AreChains first low old → AreChains first low new
  pub others : (x : Item) → is_eq (item_cmp x item) ≡ false → chain_in new x ≡ chain_in old x
  pub numbers : AreNumbersKept old new
