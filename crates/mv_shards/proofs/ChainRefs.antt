-- Where the chains of items stand.
use Rattle.std.proofs.Common.{◌≡◌, ℕ, ◌<◌, zero, suc, List, [], ◌∷◌, Option, None, Some, get_or, length, refl, sym, ap, ◌∙◌, subst, arith}
use Rattle.std.specs.Prelude.{◌==◌, if◌then◌else◌, IsSome}
use Rattle.avm_items.specs.declared.item.Item.{Item}
use Rattle.avm_items.specs.declared.item_value.ItemValue.{ItemValue}
use Rattle.avm_items.specs.Items.{ItemMap}
use Rattle.mv_shards.specs.declared.shard_state.ShardState.{ShardState}
use Rattle.mv_shards.specs.declared.chain_ref.ChainRef.{ChainRef}
use Rattle.mv_shards.specs.Indexes.{shard_of}
use Rattle.mv_shards.specs.KeptChains.{AllVersions, IsReadable, IsReadableAt, number_in, one_marked}
use Rattle.mv_shards.specs.SlotWriting.{AreBeside, ArePlaced, AreChainRefs, AreChainRefsKept, IsPlaced, IsChainRef, IsReadableRef, StateSlots, chains_at, chains_for, chains_or, versions_marked}
use Rattle.mv_shards.proofs.Numbers.{one_numbered}
use Rattle.mv_shards.proofs.Slots.{here_at}

-- ---- one spot

some_within : {A : Type 0} (xs : List (Option A)) (i : ℕ) → IsSome (get_or xs i None) → i < length xs
some_within [] i there = absurd cc
some_within (x ∷ xs) zero there = omega arith
some_within (x ∷ xs) (suc i) there = let h = some_within xs i there in omega (arith, h)

spot_held : (parts : StateSlots) (x : Item) (spot : ChainRef) → IsChainRef parts x spot → IsSome (get_or parts (shard_of x) None)
spot_held parts x spot h = by (get_or parts (shard_of x) None) h.number
  where
    by : (o : Option ShardState) → number_in (chains_or o) x ≡ Some spot.number → IsSome o
    by None never = absurd cc
    by (Some p) number = refl

-- where an item's chain stands at a spot, there is a part at the spot's index
pub spot_there : (parts : StateSlots) (x : Item) (spot : ChainRef) → IsChainRef parts x spot → IsSome (get_or parts spot.shard None)
spot_there parts x spot h = subst (λ i. IsSome (get_or parts i None)) (sym h.shard) (spot_held parts x spot h)

pub spot_within : (parts : StateSlots) (x : Item) (spot : ChainRef) → IsChainRef parts x spot → spot.shard < length parts
spot_within parts x spot h = some_within parts spot.shard (spot_there parts x spot h)

-- the part found at the index of a spot does not depend on the default
pub spot_here : (parts : StateSlots) (x : Item) (spot : ChainRef) (d : Option ShardState) (p : ShardState) → IsChainRef parts x spot
    → get_or parts spot.shard d ≡ Some p → get_or parts spot.shard None ≡ Some p
spot_here parts x spot d p h found = here_at parts spot.shard x d p h.shard (spot_held parts x spot h) found

-- the chains of that part are those of the item's shard
pub spot_chains : (parts : StateSlots) (x : Item) (spot : ChainRef) (p : ShardState) → IsChainRef parts x spot
    → get_or parts spot.shard None ≡ Some p → chains_for parts x ≡ p.chains
spot_chains parts x spot p h here = ap (chains_at parts) (sym h.shard) ∙ ap chains_or here

-- the item has the spot's number among the chains of that part
pub spot_number : (parts : StateSlots) (x : Item) (spot : ChainRef) (p : ShardState) → IsChainRef parts x spot
    → get_or parts spot.shard None ≡ Some p → number_in p.chains x ≡ Some spot.number
spot_number parts x spot p h here = subst (λ map. number_in map x ≡ Some spot.number) (spot_chains parts x spot p h here) h.number

-- where an item's chain stands at a spot, and is readable, the chain with the spot's number is, in the part at the spot's index
pub spot_readable : (t : ℕ) (parts : StateSlots) (spot : ChainRef) (d : Option ShardState) (p : ShardState) → IsReadableRef t parts spot
    → get_or parts spot.shard d ≡ Some p → IsReadableAt t p.chains spot.number
spot_readable t parts spot d p r found =
    let here = spot_here parts r.item spot d p r.here found in
    record {
      item = r.item;
      numbered = spot_number parts r.item spot p r.here here;
      readable = subst (λ map. IsReadable t map r.item) (spot_chains parts r.item spot p r.here here) r.readable;
    }

-- where chains keep their numbers, items keep their spots
pub spot_kept : (old new : StateSlots) → AreChainRefsKept old new → (x : Item) (spot : ChainRef) → IsChainRef old x spot
    → IsChainRef new x spot
spot_kept old new kept x spot h = record { shard = h.shard; number = kept (shard_of x) x spot.number h.number }

pub placed_kept : (old new : StateSlots) → AreChainRefsKept old new → (e : Item × ItemValue) (placed : ChainRef × ItemValue)
    → IsPlaced old e placed → IsPlaced new e placed
placed_kept old new kept e placed h = record { spot = spot_kept old new kept e.0 placed.0 h.spot; value = h.value }

-- one item stands there
pub one_there : (parts : StateSlots) (x y : Item) (spot : ChainRef) → IsChainRef parts x spot → IsChainRef parts y spot → x ≡ y
one_there parts x y spot h k =
    one_numbered (chains_for parts x) x y spot.number h.number (subst (λ i. number_in (chains_at parts i) y ≡ Some spot.number) (sym k.shard ∙ h.shard) k.number)

-- ---- many

-- where one relation implies another, items beside things by the first are so by the second
pub beside_each : {B : Type 0} (P Q : Item × ItemValue → B → Type 0) → ((e : Item × ItemValue) (b : B) → P e b → Q e b)
    → (es : ItemMap) (bs : List B) → AreBeside P es bs → AreBeside Q es bs
beside_each P Q f [] [] h = tt
beside_each P Q f [] (b ∷ bs) h = absurd h
beside_each P Q f (e ∷ es) [] h = absurd h
beside_each P Q f (e ∷ es) (b ∷ bs) h = (f e b h.0, beside_each P Q f es bs h.1)

pub spots_kept : (old new : StateSlots) → AreChainRefsKept old new → (es : ItemMap) (spots : List ChainRef) → AreChainRefs old es spots
    → AreChainRefs new es spots
spots_kept old new kept = beside_each (λ e s. IsChainRef old e.0 s) (λ e s. IsChainRef new e.0 s) (λ e. spot_kept old new kept e.0)

pub all_placed_kept : (old new : StateSlots) → AreChainRefsKept old new → (es : ItemMap) (placed : List (ChainRef × ItemValue))
    → ArePlaced old es placed → ArePlaced new es placed
all_placed_kept old new kept = beside_each (IsPlaced old) (IsPlaced new) (placed_kept old new kept)

-- what stands there is what is marked
pub marked_there : (i t : ℕ) (parts : StateSlots) (es fs : ItemMap) (spots : List ChainRef) (all : AllVersions ItemValue)
    → AreChainRefs parts es spots → AreChainRefs parts fs spots → versions_marked i t es all ≡ versions_marked i t fs all
marked_there i t parts [] [] [] all h k = refl
marked_there i t parts [] fs (s ∷ ss) all h k = absurd h
marked_there i t parts [] (f ∷ fs) [] all h k = absurd k
marked_there i t parts (e ∷ es) fs [] all h k = absurd h
marked_there i t parts (e ∷ es) [] (s ∷ ss) all h k = absurd k
marked_there i t parts (e ∷ es) (f ∷ fs) (s ∷ ss) all h k =
    ap (λ x. versions_marked i t es (if shard_of x == i then one_marked t x all else all)) (one_there parts e.0 f.0 s h.0 k.0)
    ∙ marked_there i t parts es fs ss (if shard_of f.0 == i then one_marked t f.0 all else all) h.1 k.1

-- items with values that are placed at the same spots, with the same values, are the same
pub placed_once : (parts : StateSlots) (es fs : ItemMap) (placed : List (ChainRef × ItemValue)) → ArePlaced parts es placed
    → ArePlaced parts fs placed → es ≡ fs
placed_once parts [] [] [] h k = refl
placed_once parts [] fs (p ∷ ps) h k = absurd h
placed_once parts [] (f ∷ fs) [] h k = absurd k
placed_once parts (e ∷ es) fs [] h k = absurd h
placed_once parts (e ∷ es) [] (p ∷ ps) h k = absurd k
placed_once parts (e ∷ es) (f ∷ fs) (p ∷ ps) h k =
    let item : e.0 ≡ f.0 = one_there parts e.0 f.0 p.0 h.0.spot k.0.spot in
    let value : e.1 ≡ f.1 = sym h.0.value ∙ k.0.value in
    λ j. (item j, value j) ∷ placed_once parts es fs ps h.1 k.1 j
