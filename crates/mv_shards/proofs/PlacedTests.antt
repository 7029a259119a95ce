-- Before a commit is written: its chains go back to its timestamp, and have what their items had before they were found.
use Rattle.std.proofs.Common.{◌≡◌, ℕ, List, [], ◌∷◌, Option, None, Some, get_or, refl, sym, ap, ◌∙◌}
use Rattle.std.specs.Prelude.{if◌then◌else◌}
use Rattle.std.specs.Arc.{arc_value}
use Rattle.std.specs.List.{AllByRecursion}
use Rattle.teal_value.specs.declared.failure.Failure.{Failure}
use Rattle.teal_value.specs.declared.failure.Failure.TheVariants as failure
use Rattle.avm_items.specs.declared.item.Item.{Item}
use Rattle.avm_items.specs.declared.item_value.ItemValue.{ItemValue}
use Rattle.avm_items.specs.Items.{ItemMap, Look}
use Rattle.avm_items.specs.LedgerItems.{at}
use Rattle.avm_items.specs.SameValues.{is_same_value}
use Rattle.mv_chain.specs.declared.chain.Late.{Late}
use Rattle.mv_chain.specs.declared.chain.Version.{Version}
use Rattle.mv_chain.specs.Versions.{lateness, newest_at}
use Rattle.mv_history.proofs.Lists.{all_map}
use Rattle.mv_shards.specs.declared.chain_ref.ChainRef.{ChainRef}
use Rattle.mv_shards.specs.declared.commit_scratch.CommitScratch.{CommitScratch}
use Rattle.mv_shards.specs.declared.shard_state.ShardState.{ShardState}
use Rattle.mv_shards.specs.declared.write_fault.WriteFault.{WriteFault}
use Rattle.mv_shards.specs.declared.write_fault.WriteFault.TheVariants as fault
use Rattle.mv_shards.specs.Helds.{AreHeld, IsHeld}
use Rattle.mv_shards.specs.Indexes.{shard_of}
use Rattle.mv_shards.specs.KeptChains.{AreChains, versions_of}
use Rattle.mv_shards.specs.KeptHelds.{AreInSlots, seen_all}
use Rattle.mv_shards.specs.PlacedTests.{IsUnplaced, lateness_there, newest_there, value_there}
use Rattle.mv_shards.specs.SlotWriting.{AreGrown, ArePlaced, Frame, IsReadableIn, IsScratch, StateSlots, chains_at, chains_for, first_at, first_or, frame_or}
use Rattle.mv_shards.specs.TestedWrites.{IsUnwritten, first_late, late_else, lateness_in, moved_item, no_version, values_to}
use Rattle.mv_shards.specs.Writing.{versions_for, versions_or_none}
use Rattle.mv_shards.proofs.AfterScratch.{all_readable, roomy_placed}
use Rattle.mv_shards.proofs.FirstReads.{readable_of}
use Rattle.mv_shards.proofs.Numbers.{numbered_there}
use Rattle.mv_shards.proofs.SeenWrites.{held_in, versions_seen}
use Rattle.mv_shards.proofs.Slots.{seen_at}

-- parts of the same frame have the same first values
first_framed : (o p : Option ShardState) → frame_or p ≡ frame_or o → first_or p ≡ first_or o
first_framed None None same = refl
first_framed None (Some q) same = absurd cc
first_framed (Some p) None same = absurd cc
first_framed (Some p) (Some q) same =
    let f : ◌≡◌ {A = Frame} (record { index = q.index; low = q.low; base = arc_value q.base }) (record { index = p.index; low = p.low; base = arc_value p.base }) = cc in
    ap (λ (g : Frame). at g.base) f

-- where versions went back to a timestamp, the chains of what is placed do so after growth
placed_readable : (t : ℕ) (old new : StateSlots) → ((i : ℕ) → AreChains (first_at old i) t (chains_at old i)) → AreGrown old new → (es : ItemMap) (placed : List (ChainRef × ItemValue)) → ArePlaced new es placed → AllByRecursion (λ e. IsReadableIn t new e.0) es
placed_readable t old new k g [] placed h = tt
placed_readable t old new k g (e ∷ es) [] h = absurd h
placed_readable t old new k g (e ∷ es) (p ∷ ps) h = (
  readable_of (first_at old (shard_of e.0)) t (chains_for new e.0) e.0 (((g.maps (shard_of e.0)).kept t (k (shard_of e.0))).old_enough e.0) (numbered_there (chains_for new e.0) e.0 p.0.number h.0.spot.number),
  placed_readable t old new k g es ps h.1,
)

module _ (t : ℕ) (old grown : StateSlots) (g : AreGrown old grown) where
  newest_same : (x : Item) → newest_there t grown x ≡ newest_there t old x
  newest_same x =
      let i = shard_of x in
      ap (λ first. newest_at t (versions_of first (chains_at grown i) x) no_version) (first_framed _ _ (g.frames i)) ∙ ap (λ vs. newest_at t vs no_version) ((g.maps i).versions x)

  -- items have the values that they had, and writes are as late as they were
  pub values_same : value_there t grown ≡ value_there t old
  values_same j x = (newest_same x j).value

  pub lateness_same : lateness_there t grown ≡ lateness_there t old
  lateness_same j x = lateness t (newest_same x j)

  -- what was found goes back to the timestamp
  module _ (k : (i : ℕ) → AreChains (first_at old i) t (chains_at old i)) (reads writes : ItemMap) (made : CommitScratch) (room : IsScratch grown reads writes made) where
    pub reads_readable : AllByRecursion (λ e. IsReadableIn t grown e.0) reads
    reads_readable = all_readable t old grown k g reads made.reads.items room.spots

    pub writes_placed : ArePlaced grown writes made.writes.items
    writes_placed = roomy_placed grown writes made.writes.items room.roomy

    pub writes_readable : AllByRecursion (λ e. IsReadableIn t grown e.0) writes
    writes_readable = placed_readable t old grown k g writes made.writes.items writes_placed

-- ---- tests by look-ups that are alike

pub moved_alike : (look other : Look) (reads : ItemMap) → AllByRecursion (λ r. look r.0 ≡ other r.0) reads → moved_item look reads ≡ moved_item other reads
moved_alike look other [] alike = refl
moved_alike look other (r ∷ rs) alike = λ i. if is_same_value (alike.0 i) r.1 then moved_alike look other rs alike.1 i else Some r.0

late_alike : (late other : Item → Option Late) (writes : ItemMap) → AllByRecursion (λ w. late w.0 ≡ other w.0) writes → first_late late writes ≡ first_late other writes
late_alike late other [] alike = refl
late_alike late other (w ∷ ws) alike = λ i. late_else w.0 (alike.0 i) (late_alike late other ws alike.1 i)

-- ---- what is seen

module _ (t : ℕ) (parts : StateSlots) (k : AreInSlots parts) where
  newest_seen : (x : Item) → IsHeld (seen_all parts) x → newest_there t parts x ≡ newest_at t (versions_for (seen_all parts) x) no_version
  newest_seen x held =
      let i = shard_of x in
      ap (λ vs. newest_at t vs no_version) (sym (ap (λ o. versions_or_none o x) (seen_at parts i) ∙ versions_seen i (get_or parts i None) x (k.each i) (held_in parts x held)))

  -- what has moved and what is late, among items of shards that are held, is so by what is seen of them
  pub moved_seen : (reads : ItemMap) → AreHeld (seen_all parts) reads → moved_item (value_there t parts) reads ≡ moved_item (values_to (seen_all parts) t) reads
  moved_seen reads held =
      moved_alike (value_there t parts) (values_to (seen_all parts) t) reads (all_map (λ r. IsHeld (seen_all parts) r.0) _ reads (λ r there. ap (λ (v : Version ItemValue). v.value) (newest_seen r.0 there)) held)

  pub late_seen : (writes : ItemMap) → AreHeld (seen_all parts) writes → first_late (lateness_there t parts) writes ≡ first_late (lateness_in (seen_all parts) t) writes
  late_seen writes held =
      late_alike (lateness_there t parts) (lateness_in (seen_all parts) t) writes (all_map (λ w. IsHeld (seen_all parts) w.0) _ writes (λ w there. ap (lateness t) (newest_seen w.0 there)) held)

  -- what refuses a commit is seen
  pub unwritten_seen : (reads writes : ItemMap) → AreHeld (seen_all parts) reads → AreHeld (seen_all parts) writes → (error : Failure WriteFault) → IsUnplaced t reads writes parts error → IsUnwritten t reads writes (seen_all parts) error
  unwritten_seen reads writes rs ws failure.Memory h = tt
  unwritten_seen reads writes rs ws (failure.Fault (fault.Moved x)) h = sym (moved_seen reads rs) ∙ h
  unwritten_seen reads writes rs ws (failure.Fault (fault.Late x late)) h = (sym (moved_seen reads rs) ∙ h.0, sym (late_seen writes ws) ∙ h.1)
