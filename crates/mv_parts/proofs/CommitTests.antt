-- What the tests of a commit find is what the entries say.
use Rattle.std.proofs.Common.{◌≡◌, ◌≢◌, ℕ, suc, ◌<◌, ◌≤◌, ◌==◌, ◌&&◌, ◌||◌, Bool, true, false, nat_lt, if◌then◌else◌, List, [], ◌∷◌, Option, None, Some, get_or, refl, sym, ap, ◌∙◌, subst, arith}
use Rattle.std.specs.Prelude.{IfSome, IsSome, is_some, option_map}
use Rattle.teal_value.specs.declared.failure.Failure.TheVariants.{Fault}
use Rattle.std.specs.Map.{lookup}
use Rattle.std.specs.List.{AllByRecursion}
use Rattle.avm_ledger.specs.Ledgers.{Ledger}
use Rattle.avm_items.specs.declared.item.Item.{Item}
use Rattle.avm_items.specs.declared.item_value.ItemValue.{ItemValue}
use Rattle.avm_items.specs.Items.{ItemMap}
use Rattle.avm_items.specs.LedgerItems.{at}
use Rattle.avm_call.specs.declared.outcome.Outcome.{Outcome}
use Rattle.mv_chain.specs.declared.chain.Late.{Late}
use Rattle.mv_chain.specs.declared.chain.Version.{Version}
use Rattle.mv_chain.specs.Agreement.{HoldsVersions}
use Rattle.mv_chain.specs.Versions.{lateness, mark_in, newest_at, oldest_timestamp}
use Rattle.mv_chain.proofs.Agreements.{every_write_follows_the_version_below_lem, no_version_is_at_a_fresh_timestamp_lem}
use Rattle.mv_chain.proofs.Found.{every_read_finds_the_newest_lem}
use Rattle.mv_history.specs.History.{IsRising, version_below}
use Rattle.mv_history.specs.World.{attempt_at}
use Rattle.mv_history.proofs.Attempts.{found_attempt, found_timestamp}
use Rattle.mv_history.proofs.Lists.{Compared, less, not_less, compared, Equals, equal, unequal, equals, all_found, all_map}
use Rattle.mv_history.proofs.Versions.{next_below}
use Rattle.mv_shards.specs.Helds.{AreAtIndexes, AreHeld, IsHeld, ShardSlots, shard_for}
use Rattle.mv_shards.specs.Indexes.{shard_of}
use Rattle.mv_shards.specs.Shards.{Shard, versions_held}
use Rattle.mv_shards.proofs.Foreign.{absent_all}
use Rattle.mv_shards.proofs.PlacedTests.{moved_alike}
use Rattle.mv_shards.specs.Writing.{AreLow, CanTake, IsLowAt, NoneForeign, has_timestamp, has_write_at, is_foreign, versions_for, versions_or_none}
use Rattle.mv_parts.specs.Agreeing.{AllAgree, AreMarkedIn, ShardAgrees}
use Rattle.mv_parts.specs.CallHistory.{CallAttempt, CallEntry, same_item}
use Rattle.mv_parts.specs.declared.commit_fault.CommitFault.{CommitFault}
use Rattle.mv_parts.specs.declared.commit_fault.CommitFault.TheVariants as fault
use Rattle.mv_parts.specs.Commits.{AreCovered, IsForeign, IsWriteRefusal, MayWrite, late_after, late_or, late_write, lateness_by, lateness_of, later, state_for, version_followed}
use Rattle.mv_shards.specs.TestedWrites.{IsTestedWrite, first_late, late_else, lateness_in, moved_item, no_version, values_to}
use Rattle.mv_parts.specs.CommitTests.{IsOpenAt, lateness_below}
use Rattle.mv_parts.specs.Journals.{IsConsistentJournal, IsLive, IsOfNumber, Journal, greatest_reader, has_read, version_read}
use Rattle.mv_parts.proofs.HeldVersions.{has_contained}
use Rattle.mv_parts.proofs.Readers.{greatest_at_most}
use Rattle.mv_parts.proofs.SerialCalls.{items_have_an_equality}

-- ---- at the timestamp of a live attempt

pub open_at : (j : Journal) (a : CallAttempt) → IsConsistentJournal j → IsLive j.world a → IsOpenAt j a.timestamp
open_at j a consistent live = by (attempt_at a.timestamp j.world.live) refl live
  where
    by : (o : Option CallAttempt) → attempt_at a.timestamp j.world.live ≡ o → IsOfNumber a.number o → IsOpenAt j a.timestamp
    by None is here = absurd here
    by (Some b) is here =
        let time : b.timestamp ≡ a.timestamp = found_timestamp a.timestamp b j.world.live is in
        record {
          positive = subst (λ t. 0 < t) time (found_attempt (λ (c : CallAttempt). (0 < c.timestamp) × (c.timestamp ≤ j.world.clock)) a.timestamp b j.world.live is consistent.schedule.live_past).0;
          unused = subst (λ t. AllByRecursion (λ (g : CallEntry). g.timestamp ≢ t) j.world.entries) time
              (found_attempt (λ (c : CallAttempt). AllByRecursion (λ (g : CallEntry). g.timestamp ≢ c.timestamp) j.world.entries) a.timestamp b j.world.live is consistent.schedule.live_fresh);
          above = subst (λ t. j.world.low ≤ t) time (found_attempt (λ (c : CallAttempt). j.world.low ≤ c.timestamp) a.timestamp b j.world.live is consistent.schedule.low_live);
        }

-- ---- by the entries

-- where no entry has the timestamp, the version that a write follows is the one below the timestamp
pub followed_below : (base : Ledger) (es : List CallEntry) (t : ℕ) (x : Item) → AllByRecursion (λ (e : CallEntry). e.timestamp ≢ t) es → version_below same_item (at base) es (suc t) x ≡ version_below same_item (at base) es t x
followed_below base es t x unused = next_below same_item t es x (0, at base x) unused

pub late_below : (base : Ledger) (es : List CallEntry) (held : ShardSlots) (t : ℕ) (writes : ItemMap) → AllByRecursion (λ (e : CallEntry). e.timestamp ≢ t) es → late_write (lateness_below base es held t) writes ≡ late_write (lateness_of base es held t) writes
late_below base es held t writes unused =
    ap (λ late. late_write late writes) (λ i x. later (late_after t (sym (followed_below base es t x unused) i).0 (greatest_reader base es x (sym (followed_below base es t x unused) i).0)) (lateness_in held t x))

-- ---- the least write that is late

abbrev pub fault_of : Item × Late → CommitFault
fault_of found = fault.Late found.0 found.1.version found.1.mark

pub late_found : (late : Item → Option Late) (writes : ItemMap) → late_write late writes ≡ option_map fault_of (first_late late writes)
late_found late [] = refl
late_found late (w ∷ ws) = by (late w.0) (late_found late ws)
  where
    by : (o : Option Late) → late_write late ws ≡ option_map fault_of (first_late late ws) → late_or w.0 o (late_write late ws) ≡ option_map fault_of (late_else w.0 o (first_late late ws))
    by None rest = rest
    by (Some l) rest = refl

-- ---- by shards that agree

late_alike : (late other : Item → Option Late) (writes : ItemMap) → AllByRecursion (λ w. late w.0 ≡ other w.0) writes → late_write late writes ≡ late_write other writes
late_alike late other [] alike = refl
late_alike late other (w ∷ ws) alike = λ i. late_or w.0 (alike.0 i) (late_alike late other ws alike.1 i)

-- a mark that is not below the greatest reader says it all
later_mark : (t version reader mark : ℕ) → reader ≤ mark → later (late_after t version reader) (late_after t version mark) ≡ late_after t version mark
later_mark t version reader mark most = by (nat_lt t reader) (nat_lt t mark) (compared t reader) (compared t mark)
  where
    late_at : ℕ → Late
    late_at m = record { version = version; mark = m }

    greater : (b : Bool) → Compared reader mark b → (if b then Some (late_at mark) else Some (late_at reader)) ≡ Some (late_at mark)
    greater b (less k) = refl
    greater b (not_less k) = let same : reader ≡ mark = omega (arith, k, most) in ap (λ m. Some (late_at m)) same

    by : (b c : Bool) → Compared t reader b → Compared t mark c → later (if b then Some (late_at reader) else None) (if c then Some (late_at mark) else None) ≡ (if c then Some (late_at mark) else None)
    by b c (less h) (less k) = greater (nat_lt reader mark) (compared reader mark)
    by b c (less h) (not_less k) = absurd (omega (arith, h, k, most))
    by b c (not_less h) (less k) = refl
    by b c (not_less h) (not_less k) = refl

-- what is late is no refusal for a shard
pub late_only : (late : Item → Option Late) (writes : ItemMap) (o : Option CommitFault) → o ≡ late_write late writes → IfSome o (λ f. IsForeign (Fault f) → ⊥)
late_only late [] o is = subst (λ p. IfSome p (λ f. IsForeign (Fault f) → ⊥)) (sym is) tt
late_only late (w ∷ ws) o is = subst (λ p. IfSome p (λ f. IsForeign (Fault f) → ⊥)) (sym is) (by (late w.0) (late_only late ws (late_write late ws) refl))
  where
    by : (p : Option Late) → IfSome (late_write late ws) (λ f. IsForeign (Fault f) → ⊥) → IfSome (late_or w.0 p (late_write late ws)) (λ f. IsForeign (Fault f) → ⊥)
    by None rest = rest
    by (Some l) rest = λ h. h

none_there : (t : ℕ) (vs : List (Version ItemValue)) → AllByRecursion (λ v. v.timestamp ≢ t) vs → has_timestamp t vs ≡ false
none_there t [] none = refl
none_there t (v ∷ vs) none = by (v.timestamp == t) (equals v.timestamp t) (none_there t vs none.1)
  where
    by : (b : Bool) → Equals v.timestamp t b → has_timestamp t vs ≡ false → (b || has_timestamp t vs) ≡ false
    by b (equal k) rest = absurd (none.0 k)
    by b (unequal k) rest = rest

module _ (j : Journal) (held : ShardSlots) (agree : AllAgree j held) (at_index : AreAtIndexes held) (t : ℕ) (open_here : IsOpenAt j t) where
  abbrev es : List CallEntry
  es = j.world.entries

  pub low_held : AreLow t held
  low_held i = by (get_or held i None) refl
    where
      by : (o : Option Shard) → get_or held i None ≡ o → IsLowAt t o
      by None is = tt
      by (Some s) is = subst (λ n. n ≤ t) (sym (agree i s is).low) open_here.above

  -- the shard that an item is in
  record IsIn (x : Item) (s : Shard) : Type 0 where
    pub is : shard_for held x ≡ Some s
    pub own : shard_of x ≡ s.index
    pub agrees : ShardAgrees j s

  module _ (x : Item) (s : Shard) (inside : IsIn x s) where
    versions_are : versions_for held x ≡ versions_held s x
    versions_are = ap (λ o. versions_or_none o x) inside.is

    holds : HoldsVersions (λ value. value) same_item (at j.base) j.world.low es x (versions_held s x)
    holds = inside.agrees.versions x inside.own

    value_in_shard : (newest_at t (versions_for held x) no_version).value ≡ state_for j t x
    value_in_shard = ap (λ vs. (newest_at t vs no_version).value) versions_are ∙ (holds.found t no_version open_here.above).value ∙ ap (λ (v : ℕ × ItemValue). v.1) (followed_below j.base es t x open_here.unused)

    abbrev newest : Version ItemValue
    newest = newest_at t (versions_held s x) no_version

    followed : newest.timestamp ≡ version_followed j.base es t x
    followed = (holds.found t no_version open_here.above).timestamp

    mark_is : newest.mark ≡ mark_in (version_followed j.base es t x) (versions_held s x)
    mark_is = every_write_follows_the_version_below_lem Item ItemValue Outcome ItemValue (λ value. value) same_item (at j.base) j.world.low es x (versions_held s x) holds t no_version open_here.above

    is_there : has_timestamp (version_followed j.base es t x) (versions_held s x) ≡ true
    is_there =
        let old : oldest_timestamp (versions_held s x) ≤ j.world.low = holds.old_enough in
        subst (λ n. has_timestamp n (versions_held s x) ≡ true) followed
        (has_contained (versions_held s x) newest (every_read_finds_the_newest_lem ItemValue t (versions_held s x) no_version holds.chain (omega (arith, old, open_here.above))).held)

    read_marked : (g : CallEntry) → AreMarkedIn j.base es s g → has_read j.base es x (version_followed j.base es t x) g ≡ true → g.timestamp ≤ newest.mark
    read_marked g marked reads = by (lookup (same_item x) g.reads) refl reads
      where
        by : (o : Option ItemValue) → lookup (same_item x) g.reads ≡ o → (is_some o && (version_read j.base es g x == version_followed j.base es t x)) ≡ true → g.timestamp ≤ newest.mark
        by None is here = absurd cc
        by (Some value) is here = at_version (version_read j.base es g x == version_followed j.base es t x) (equals (version_read j.base es g x) (version_followed j.base es t x)) here
          where
            at_version : (b : Bool) → Equals (version_read j.base es g x) (version_followed j.base es t x) b → b ≡ true → g.timestamp ≤ newest.mark
            at_version b (equal k) told =
                subst (λ m. g.timestamp ≤ m) (ap (λ n. mark_in n (versions_held s x)) k ∙ sym mark_is)
                (all_found same_item items_have_an_equality.exact (λ y. shard_of y ≡ s.index → has_timestamp (version_read j.base es g y) (versions_held s y) ≡ true → g.timestamp ≤ mark_in (version_read j.base es g y) (versions_held s y)) x value g.reads is marked
                inside.own (subst (λ n. has_timestamp n (versions_held s x) ≡ true) (sym k) is_there))
            at_version b (unequal k) told = absurd cc

    reader_below : greatest_reader j.base es x (version_followed j.base es t x) ≤ newest.mark
    reader_below = greatest_at_most (has_read j.base es x (version_followed j.base es t x)) es newest.mark (all_map (AreMarkedIn j.base es s) _ es read_marked inside.agrees.marks)

    late_in_shard : lateness_in held t x ≡ lateness_of j.base es held t x
    late_in_shard =
        let in_it : lateness_in held t x ≡ late_after t (version_followed j.base es t x) newest.mark = ap (λ vs. lateness t (newest_at t vs no_version)) versions_are ∙ ap (λ n. late_after t n newest.mark) followed in
        in_it ∙ sym (later_mark t (version_followed j.base es t x) (greatest_reader j.base es x (version_followed j.base es t x)) newest.mark reader_below) ∙ ap (later (lateness_by j.base es t x)) (sym in_it)

  of_held : (x : Item) → IsHeld held x → (s : Shard) × IsIn x s
  of_held x there = by (shard_for held x) refl there
    where
      by : (o : Option Shard) → shard_for held x ≡ o → IsSome o → (s : Shard) × IsIn x s
      by None is some = absurd cc
      by (Some s) is some = (s, record { is = is; own = sym (at_index (shard_of x) s is); agrees = agree (shard_of x) s is })

  -- whether a write is late by the shards' marks is whether it is by these and by what the entries read
  pub late_item : (x : Item) → IsHeld held x → lateness_in held t x ≡ lateness_of j.base es held t x
  late_item x there = let h = of_held x there in late_in_shard x h.0 h.1

  -- what has moved by the shards has moved by the entries
  pub moved_same : (reads : ItemMap) → AreHeld held reads → moved_item (λ x. (newest_at t (versions_for held x) no_version).value) reads ≡ moved_item (state_for j t) reads
  moved_same reads all =
      moved_alike (λ x. (newest_at t (versions_for held x) no_version).value) (state_for j t) reads
      (all_map (λ r. IsHeld held r.0) _ reads (λ r there. let h = of_held r.0 there in value_in_shard r.0 h.0 h.1) all)

  pub late_same : (writes : ItemMap) → AreHeld held writes → late_write (lateness_in held t) writes ≡ late_write (lateness_of j.base es held t) writes
  late_same writes all =
      late_alike (lateness_in held t) (lateness_of j.base es held t) writes (all_map (λ w. IsHeld held w.0) _ writes (λ w there. late_item w.0 there) all)

  -- no shard that agrees is foreign
  pub none_foreign : IsRising 0 es → (writes : ItemMap) → NoneForeign t writes held
  none_foreign rising writes i = by (get_or held i None) refl
    where
      unwritten : (s : Shard) → s.index ≡ i → ShardAgrees j s → (ws : ItemMap) → has_write_at i t ws s ≡ false
      unwritten s here k [] = refl
      unwritten s here k (w ∷ ws) = at_item (shard_of w.0 == i) (equals (shard_of w.0) i) (unwritten s here k ws)
        where
          at_item : (b : Bool) → Equals (shard_of w.0) i b → has_write_at i t ws s ≡ false → ((b && has_timestamp t (versions_held s w.0)) || has_write_at i t ws s) ≡ false
          at_item b (equal own) rest =
              ap (λ c. c || has_write_at i t ws s)
              (none_there t (versions_held s w.0) (no_version_is_at_a_fresh_timestamp_lem Item ItemValue Outcome ItemValue (λ value. value) same_item (at j.base) j.world.low es w.0 (versions_held s w.0) (k.versions w.0 (own ∙ sym here)) rising t open_here.positive open_here.unused))
              ∙ rest
          at_item b (unequal other) rest = rest

      by : (o : Option Shard) → get_or held i None ≡ o → is_foreign i t writes o ≡ false
      by None is = refl
      by (Some s) is = low (nat_lt t s.low) (compared t s.low)
        where
          k : ShardAgrees j s
          k = agree i s is

          low : (b : Bool) → Compared t s.low b → (b || has_write_at i t writes s) ≡ false
          low b (less above) = let same : s.low ≡ j.world.low = k.low in absurd (omega (arith, above, same, open_here.above))
          low b (not_less below) = unwritten s (at_index i s is) k writes

  -- the shards take what a commit has read and writes
  pub takes_agreeing : IsRising 0 es → (reads writes : ItemMap) → AreCovered held reads writes → CanTake t held reads writes
  takes_agreeing rising reads writes covers = record {
    reads_held = covers.reads_held;
    writes_held = covers.writes_held;
    low = low_held;
    absent = absent_all t writes held (none_foreign rising writes) covers.writes_held;
  }

  -- what was written to them might be
  pub may_write : IsRising 0 es → (reads writes : ItemMap) (after : ShardSlots) → AreCovered held reads writes → IsTestedWrite t reads writes held after → MayWrite j held t reads writes
  may_write rising reads writes after covers written = record {
    unmoved = sym (moved_same reads covers.reads_held) ∙ written.unmoved;
    none_foreign = none_foreign rising writes;
    in_time = sym (late_same writes covers.writes_held) ∙ late_found (lateness_in held t) writes ∙ ap (option_map fault_of) written.in_time;
  }

  -- what was moved or late there refuses the writes
  pub refused_moved : (reads writes : ItemMap) (x : Item) → AreCovered held reads writes → moved_item (values_to held t) reads ≡ Some x → IsWriteRefusal j held t reads writes (fault.Moved x)
  refused_moved reads writes x covers moved = sym (moved_same reads covers.reads_held) ∙ moved

  pub refused_late : IsRising 0 es → (reads writes : ItemMap) (x : Item) (late : Late) → AreCovered held reads writes → moved_item (values_to held t) reads ≡ None → first_late (lateness_in held t) writes ≡ Some (x, late)
      → IsWriteRefusal j held t reads writes (fault_of (x, late))
  refused_late rising reads writes x late covers unmoved found = (
    sym (moved_same reads covers.reads_held) ∙ unmoved,
    none_foreign rising writes,
    sym (late_same writes covers.writes_held) ∙ late_found (lateness_in held t) writes ∙ ap (option_map fault_of) found,
  )
