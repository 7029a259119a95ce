-- From room that was made to chains that can be written.
use Rattle.std.proofs.Common.{◌≡◌, ◌≢◌, ℕ, ◌≤◌, List, [], ◌∷◌, Some, sym, ap, ◌∙◌, subst}
use Rattle.std.specs.List.{AllByRecursion}
use Rattle.avm_items.specs.declared.item.Item.{Item}
use Rattle.avm_items.specs.declared.item_value.ItemValue.{ItemValue}
use Rattle.avm_items.specs.Items.{ItemMap}
use Rattle.mv_chain.specs.Versions.{Versions, oldest_timestamp}
use Rattle.mv_shards.specs.Indexes.{shard_of}
use Rattle.mv_shards.specs.KeptChains.{AreChains, ChainMap, TakesVersion, HasRoomFor, IsGrown, chain_in, list_or, versions_of}
use Rattle.mv_shards.specs.SlotWriting.{AreGrown, AreInstalledAt, AreMarkedAt, ArePlaced, AreReadableRefs, AreReadyPlaced, AreRoomy, AreChainRefs, AreWrittenSlots, IsPlaced, IsReadableIn, IsScratch, StateSlots, TakesVersionIn, chains_at, chains_for, first_at}
use Rattle.mv_shards.specs.declared.commit_scratch.CommitScratch.{CommitScratch}
use Rattle.mv_shards.specs.declared.chain_ref.ChainRef.{ChainRef}
use Rattle.mv_shards.proofs.FirstReads.{readable_of}
use Rattle.mv_shards.proofs.Numbers.{numbered_there}
use Rattle.mv_shards.proofs.ChainRefs.{all_placed_kept, beside_each}
use Rattle.mv_shards.proofs.Writes.{ready_by, written}

here : {V : Type 0} (first : Item → V) (map : ChainMap V) (x : Item) (c : Versions V) → chain_in map x ≡ Some c → versions_of first map x ≡ c.list
here first map x c found = ap (list_or (first x)) found

-- where versions went back to a timestamp, the chains that stand at spots do so after growth
pub all_readable : (t : ℕ) (old new : StateSlots) → ((i : ℕ) → AreChains (first_at old i) t (chains_at old i))
    → AreGrown old new → (es : ItemMap) (spots : List ChainRef) → AreChainRefs new es spots
    → AllByRecursion (λ e. IsReadableIn t new e.0) es
all_readable t old new k g [] spots h = tt
all_readable t old new k g (e ∷ es) [] h = absurd h
all_readable t old new k g (e ∷ es) (s ∷ ss) h = (
  readable_of (first_at old (shard_of e.0)) t (chains_for new e.0) e.0 (((g.maps (shard_of e.0)).kept t (k (shard_of e.0))).old_enough e.0)
      (numbered_there (chains_for new e.0) e.0 s.number h.0.number),
  all_readable t old new k g es ss h.1,
)

-- ---- what has room

-- values placed with room are placed, and the chains of their items have room
pub roomy_placed : (parts : StateSlots) (es : ItemMap) (placed : List (ChainRef × ItemValue)) → AreRoomy parts es placed
    → ArePlaced parts es placed
roomy_placed parts = beside_each (λ e p. IsPlaced parts e p × HasRoomFor (chains_for parts e.0) e.0) (IsPlaced parts) (λ e p h. h.0)

pub roomy_rooms : (parts : StateSlots) (es : ItemMap) (placed : List (ChainRef × ItemValue)) → AreRoomy parts es placed
    → AllByRecursion (λ e. HasRoomFor (chains_for parts e.0) e.0) es
roomy_rooms parts [] placed h = tt
roomy_rooms parts (e ∷ es) [] h = absurd h
roomy_rooms parts (e ∷ es) (p ∷ ps) h = (h.0.1, roomy_rooms parts es ps h.1)

one_placed : (first : Item → ItemValue) (t : ℕ) (old new : ChainMap ItemValue) (x : Item) → AreChains first t old → IsGrown first old new → HasRoomFor new x → AllByRecursion (λ v. v.timestamp ≢ t) (versions_of first old x) → TakesVersion t new x
one_placed first t old new x k g r absent =
    let is = here first new x r.chain r.found in
    record {
      chain = r.chain;
      found = r.found;
      room = r.room;
      old_enough = subst (λ vs. oldest_timestamp vs ≤ t) is ((g.kept t k).old_enough x);
      absent = subst (AllByRecursion (λ v. v.timestamp ≢ t)) (sym (g.versions x) ∙ is) absent;
    }

-- what has room takes a version, also after marks
pub all_placed : (t : ℕ) (reads : ItemMap) (old new later : StateSlots) → ((i : ℕ) → AreChains (first_at old i) t (chains_at old i)) → AreGrown old new → AreMarkedAt t reads new later → (es : ItemMap)
    → AllByRecursion (λ e. HasRoomFor (chains_for new e.0) e.0) es → AllByRecursion (λ e. AllByRecursion (λ v. v.timestamp ≢ t) (versions_of (first_at old (shard_of e.0)) (chains_for old e.0) e.0)) es → AllByRecursion (λ e. TakesVersionIn t later e.0) es
all_placed t reads old new later k g m [] h absent = tt
all_placed t reads old new later k g m (e ∷ es) h absent =
    let i = shard_of e.0 in
    (m.takes i e.0 (one_placed (first_at old i) t (chains_at old i) (chains_at new i) e.0 (k i) (g.maps i) h.0 absent.0), all_placed t reads old new later k g m es h.1 absent.1)

-- ---- the whole room

module _ (t : ℕ) (reads writes : ItemMap) (old grown : StateSlots) (made : CommitScratch) (g : AreGrown old grown) (room : IsScratch grown reads writes made) (spots : List ChainRef) (same : spots ≡ made.reads.items) where
  there : AreChainRefs grown reads spots
  there = subst (AreChainRefs grown reads) (sym same) room.spots

  -- at the spots of what was read stand chains that go back to the timestamp
  pub readable_spots : ((i : ℕ) → AreChains (first_at old i) t (chains_at old i)) → AreReadableRefs t grown spots
  readable_spots k = record { items = reads; here = there; readable = all_readable t old grown k g reads spots there }

  still_placed : (new : StateSlots) → AreMarkedAt t reads grown new → ArePlaced new writes made.writes.items
  still_placed new m = all_placed_kept grown new m.numbers writes made.writes.items (roomy_placed grown writes made.writes.items room.roomy)

  -- after the marks, what is to be written is ready at a timestamp that none of its items has
  pub ready_placed : (new : StateSlots) → ((i : ℕ) → AreChains (first_at old i) t (chains_at old i))
      → ((es : ItemMap) → AreChainRefs grown es spots → AreMarkedAt t es grown new)
      → AllByRecursion (λ e. AllByRecursion (λ v. v.timestamp ≢ t) (versions_of (first_at old (shard_of e.0)) (chains_for old e.0) e.0)) writes → AreReadyPlaced t new made.writes.items
  ready_placed new k marks absent =
      let m = marks reads there in
      record {
        items = writes;
        here = still_placed new m;
        ready = ready_by t new writes room.rising_writes (all_placed t reads old grown new k g m writes (roomy_rooms grown writes made.writes.items room.roomy) absent);
      }

  -- marks and then versions at the spots of a room make the parts after the commit
  pub written_room : (new later : StateSlots) → ((es : ItemMap) → AreChainRefs grown es spots → AreMarkedAt t es grown new)
      → ((es : ItemMap) → ArePlaced new es made.writes.items → AreInstalledAt t es new later)
      → AreWrittenSlots t reads writes old later
  written_room new later marks installs =
      let m = marks reads there in
      written t reads writes old grown new later room.rising_reads room.rising_writes g m (installs writes (still_placed new m))
