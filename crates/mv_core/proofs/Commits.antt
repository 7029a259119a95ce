-- What a commit makes of a store, and why the journal refuses one, where all shards agree with it.
use Rattle.std.proofs.Common.{◌≡◌, ◌≢◌, ℕ, suc, ◌-◌, ◌<◌, ◌≤◌, ◌==◌, max, Bool, true, false, nat_lt, if◌then◌else◌, List, [], ◌∷◌, length, Option, None, Some, get_or, set, refl, sym, ap, ◌∙◌, subst, arith}
use Rattle.std.specs.Prelude.{option_map, IsSome}
use Rattle.std.specs.Map.{lookup}
use Rattle.std.specs.List.{AllByRecursion}
use Rattle.std.proofs.lemmas.List.{length-set}
use Rattle.avm_ledger.specs.declared.header.Header.{Header}
use Rattle.avm_ledger.specs.Ledgers.{Ledger}
use Rattle.avm_items.specs.declared.call_data.CallData.{CallData}
use Rattle.avm_items.specs.declared.item.Item.{Item}
use Rattle.avm_items.specs.declared.item_value.ItemValue.{ItemValue}
use Rattle.avm_items.specs.Items.{ItemMap, Look}
use Rattle.avm_items.specs.LedgerItems.{at}
use Rattle.avm_items.specs.SameValues.{is_same_value}
use Rattle.avm_call.specs.declared.outcome.Outcome.{Outcome}
use Rattle.avm_run.specs.Results.{CallRecord, IsFinishedCall}
use Rattle.avm_laws.specs.LedgerLooks.{IsOfLedger}
use Rattle.avm_laws.proofs.Pruned.{value_itself}
use Rattle.mv_chain.specs.Versions.{mark_in, newest_at}
use Rattle.mv_history.specs.Facts.{IsCheckedCommit}
use Rattle.mv_history.specs.History as history
use Rattle.mv_history.specs.History.{Agrees, entries_with, state_below, version_below}
use Rattle.mv_history.specs.Schedule.{AreMarked}
use Rattle.mv_history.specs.World.{after_commit, attempt_at, attempts_without, greatest_mark}
use Rattle.mv_history.proofs.Attempts.{all_without, found_attempt}
use Rattle.mv_history.proofs.Lists.{Compared, less, not_less, compared, Equals, equal, unequal, equals}
use Rattle.mv_history.proofs.Versions.{all_with, next_below}
use Rattle.mv_chain.specs.Stores.{IsStore, after_entry, marks_of}
use Rattle.mv_chain.proofs.Agreements.{every_write_follows_the_version_below_lem}
use Rattle.mv_chain.proofs.Stores.{every_commit_leaves_a_store_lem}
use Rattle.mv_parts.specs.CallHistory.{CallAttempt, CallEntry, CallWorld, meaning_of, same_item}
use Rattle.mv_parts.specs.CallNumbers.{call_of}
use Rattle.mv_parts.specs.CallLaws.{entry_of}
use Rattle.mv_parts.proofs.Histories.{finished_calls_are_entries}
use Rattle.mv_parts.proofs.SerialCalls.{items_have_an_equality}
use Rattle.mv_shards.specs.Helds.{ShardSlots}
use Rattle.mv_shards.specs.Writing.{AreWritten, NoneForeign, committed_versions, versions_for}
use Rattle.mv_parts.specs.Commits.{IsOwnCall, late_after, late_or, lateness_of}
use Rattle.mv_shards.specs.TestedWrites.{lateness_in, moved_item, no_version}
use Rattle.mv_parts.specs.Commits as parts
use Rattle.mv_parts.proofs.Readers.{commit_mark, mark_after}
use Rattle.mv_parts.specs.Agreeing.{AllAgree}
use Rattle.mv_parts.specs.CommitTests.{IsOpenAt}
use Rattle.mv_parts.proofs.CommitTests as tests
use Rattle.mv_core.proofs.AllShards.{at_indexes, held_all, over_written, versions_written}
use Rattle.mv_parts.specs.declared.commit_fault.CommitFault.{CommitFault as PartsFault}
use Rattle.mv_parts.specs.declared.commit_fault.CommitFault.TheVariants as parts_fault
use Rattle.mv_core.specs.declared.faults.CommitFault.{CommitFault}
use Rattle.mv_core.specs.declared.faults.CommitFault.TheVariants as fault
use Rattle.mv_core.specs.AttemptSlots.{HasLiveNumber, live_in}
use Rattle.mv_core.specs.Commits.{IsCommitted, late_write}
use Rattle.mv_core.specs.Stores.{CallSlots, IsKeptStore, marks_in, store_shown}
use Rattle.mv_core.proofs.Attempts.{attempt_here, live_ended, slots_ended}
use Rattle.mv_core.proofs.Events.{marks_are, once}
use Rattle.mv_core.proofs.Held.{marks_of_slots}

-- ---- of lists alone

agrees_unmoved : (look : Look) (reads : ItemMap) → Agrees reads look → moved_item look reads ≡ None
agrees_unmoved look [] h = refl
agrees_unmoved look (e ∷ es) h = ap (λ b. if b then moved_item look es else Some e.0) (ap (λ v. is_same_value v e.1) h.0 ∙ value_itself e.1) ∙ agrees_unmoved look es h.1

-- a mark that is there already is not raised
no_more : (f t n m : ℕ) (same : Bool) → Equals f n same → (f ≡ n → t ≤ m) → (if same then max m t else m) ≡ m
no_more f t n m same (equal e) high = let above = high e in omega (arith, above)
no_more f t n m same (unequal e) high = refl

abbrev as_parts : CommitFault → PartsFault
as_parts fault.Unknown = parts_fault.Unknown
as_parts fault.Stranger = parts_fault.Stranger
as_parts (fault.Late x version mark) = parts_fault.Late x version mark

module _ (base : Ledger) (header : Header) (calls : List CallData) (w : CallWorld) (shard_slots : ShardSlots) (slots : CallSlots) (k : IsKeptStore base header calls w shard_slots slots) (n : ℕ) (a : CallAttempt) (above : 0 < n) (inside : n - 1 < length slots) (here : get_or slots (n - 1) None ≡ Some a) where
  is_here : (HasLiveNumber w.live n a.timestamp) × (a.number ≡ n) × (attempt_at a.timestamp (live_in slots w.live) ≡ Some a)
  is_here = attempt_here slots w.live n a above inside here k.attempts

  -- the timestamp of the commit is not below the low mark, positive, and that of no entry
  pub from : w.low ≤ a.timestamp
  from = found_attempt (λ (b : CallAttempt). w.low ≤ b.timestamp) a.timestamp a (live_in slots w.live) is_here.2 k.store.consistent.schedule.low_live

  pub positive : 0 < a.timestamp
  positive = (found_attempt (λ (b : CallAttempt). (0 < b.timestamp) × (b.timestamp ≤ w.clock)) a.timestamp a (live_in slots w.live) is_here.2 k.store.consistent.schedule.live_past).0

  pub fresh : AllByRecursion (λ g. g.timestamp ≢ a.timestamp) w.entries
  fresh = found_attempt (λ (b : CallAttempt). AllByRecursion (λ g. g.timestamp ≢ b.timestamp) w.entries) a.timestamp a (live_in slots w.live) is_here.2 k.store.consistent.schedule.live_fresh

  agrees : Agrees a.reads (state_below same_item (at base) w.entries a.timestamp)
  agrees = found_attempt (λ (b : CallAttempt). Agrees b.reads (state_below same_item (at base) w.entries b.timestamp)) a.timestamp a (live_in slots w.live) is_here.2 k.store.consistent.schedule.live_agree

  marked : AreMarked same_item (at base) (marks_of (versions_for shard_slots)) w.entries a.timestamp a.reads
  marked = found_attempt (λ (b : CallAttempt). AreMarked same_item (at base) (marks_of (versions_for shard_slots)) w.entries b.timestamp b.reads) a.timestamp a (live_in slots w.live) is_here.2 k.store.consistent.schedule.live_marked

  -- ---- no read has moved

  -- what the attempt has read is still what the entries below it leave
  pub unmoved : moved_item (state_below same_item (at base) w.entries a.timestamp) a.reads ≡ None
  unmoved = agrees_unmoved (state_below same_item (at base) w.entries a.timestamp) a.reads agrees

  -- ---- writes that are late

  abbrev followed : Item → ℕ
  followed x = (version_below same_item (at base) w.entries (suc a.timestamp) x).0

  found_late : (x : Item) → lateness_in shard_slots a.timestamp x ≡ late_after a.timestamp (followed x) (mark_in (followed x) (versions_for shard_slots x))
  found_late x =
      let time : (newest_at a.timestamp (versions_for shard_slots x) no_version).timestamp ≡ followed x = ((k.store.holds x).found a.timestamp no_version from).timestamp in
      let mark : (newest_at a.timestamp (versions_for shard_slots x) no_version).mark ≡ mark_in (followed x) (versions_for shard_slots x) = every_write_follows_the_version_below_lem Item ItemValue Outcome ItemValue (λ value. value) same_item (at base) w.low w.entries x (versions_for shard_slots x) (k.store.holds x) a.timestamp no_version from in
      λ i. late_after a.timestamp (time i) (mark i)

  module _ (agree : AllAgree (record { base = base; header = header; calls = calls; world = w }) shard_slots) where
    open_here : IsOpenAt (record { base = base; header = header; calls = calls; world = w }) a.timestamp
    open_here = record { positive = positive; unused = fresh; above = from }

    -- no shard keeps the attempt from writing, by its low mark or by a version at the timestamp
    pub none_foreign : (writes : ItemMap) → NoneForeign a.timestamp writes shard_slots
    none_foreign writes =
        tests.none_foreign (record { base = base; header = header; calls = calls; world = w }) shard_slots agree (at_indexes base w.low shard_slots k.shards) a.timestamp open_here
        k.store.consistent.journal.rising writes

    -- the mark that decides is the world's
    late_here : (x : Item) → lateness_of base w.entries shard_slots a.timestamp x ≡ late_after a.timestamp (followed x) (greatest_mark same_item (marks_in shard_slots) x (followed x))
    late_here x =
        sym (tests.late_item (record { base = base; header = header; calls = calls; world = w }) shard_slots agree (at_indexes base w.low shard_slots k.shards) a.timestamp open_here x (held_all base w.low shard_slots k.shards x))
        ∙ found_late x ∙ ap (late_after a.timestamp (followed x)) (sym (marks_are base header calls w shard_slots slots k x (followed x)))

    late_same : (writes : ItemMap) → parts.late_write (lateness_of base w.entries shard_slots a.timestamp) writes ≡ option_map as_parts (late_write (store_shown base header calls w shard_slots slots) a.timestamp writes)
    late_same [] = refl
    late_same (e ∷ es) =
        (λ i. late_or e.0 (late_here e.0 i) (late_same es i))
        ∙ by (nat_lt a.timestamp (greatest_mark same_item (marks_in shard_slots) e.0 (followed e.0))) (late_write (store_shown base header calls w shard_slots slots) a.timestamp es)
      where
        mark : ℕ
        mark = greatest_mark same_item (marks_in shard_slots) e.0 (followed e.0)

        by : (b : Bool) (rest : Option CommitFault) → late_or e.0 (if b then Some (record { version = followed e.0; mark = mark }) else None) (option_map as_parts rest) ≡ option_map as_parts (if b then Some (fault.Late e.0 (followed e.0) mark) else rest)
        by true rest = refl
        by false rest = refl

    -- where no write is late for the journal, none is late for the store
    pub in_time_here : (writes : ItemMap) → parts.late_write (lateness_of base w.entries shard_slots a.timestamp) writes ≡ None → late_write (store_shown base header calls w shard_slots slots) a.timestamp writes ≡ None
    in_time_here writes none = by (late_write (store_shown base header calls w shard_slots slots) a.timestamp writes) (sym (late_same writes) ∙ none)
      where
        by : (o : Option CommitFault) → option_map as_parts o ≡ None → o ≡ None
        by None h = refl
        by (Some f) h = absurd cc

    -- a write that is late for the journal is late for the store, by the same version and mark
    pub late_shown : (writes : ItemMap) (x : Item) (version mark : ℕ) → parts.late_write (lateness_of base w.entries shard_slots a.timestamp) writes ≡ Some (parts_fault.Late x version mark)
        → late_write (store_shown base header calls w shard_slots slots) a.timestamp writes ≡ Some (fault.Late x version mark)
    late_shown writes x version mark is = by (late_write (store_shown base header calls w shard_slots slots) a.timestamp writes) (sym (late_same writes) ∙ is)
      where
        by : (o : Option CommitFault) → option_map as_parts o ≡ Some (parts_fault.Late x version mark) → o ≡ Some (fault.Late x version mark)
        by None h = absurd cc
        by (Some fault.Unknown) h = absurd cc
        by (Some fault.Stranger) h = absurd cc
        by (Some (fault.Late y v m)) h =
            let item : y ≡ x = cc in
            let at_version : v ≡ version = cc in
            let at_mark : m ≡ mark = cc in
            λ i. Some (fault.Late (item i) (at_version i) (at_mark i))

  -- ---- the commit

  module _ (f : CallRecord) (fin : IsFinishedCall f) (own : IsOwnCall calls header a f) (in_time : late_write (store_shown base header calls w shard_slots slots) a.timestamp f.writes ≡ None) (new : ShardSlots) (written : AreWritten a.timestamp a.reads f.writes shard_slots new) where
    abbrev e : CallEntry
    e = entry_of a.timestamp n f

    in_time_by : (writes : ItemMap) → late_write (store_shown base header calls w shard_slots slots) a.timestamp writes ≡ None
        → AllByRecursion (λ write. marks_of (versions_for shard_slots) write.0 (version_below same_item (at base) w.entries (suc a.timestamp) write.0).0 ≤ a.timestamp) writes
    in_time_by [] none = tt
    in_time_by (x ∷ xs) none = by (nat_lt a.timestamp (greatest_mark same_item (marks_in shard_slots) x.0 (followed x.0))) (compared a.timestamp (greatest_mark same_item (marks_in shard_slots) x.0 (followed x.0))) none (in_time_by xs)
      where
        by : (b : Bool) → Compared a.timestamp (greatest_mark same_item (marks_in shard_slots) x.0 (followed x.0)) b
            → (if b then Some (fault.Late x.0 (followed x.0) (greatest_mark same_item (marks_in shard_slots) x.0 (followed x.0))) else late_write (store_shown base header calls w shard_slots slots) a.timestamp xs) ≡ None
            → (late_write (store_shown base header calls w shard_slots slots) a.timestamp xs ≡ None → AllByRecursion (λ write. marks_of (versions_for shard_slots) write.0 (version_below same_item (at base) w.entries (suc a.timestamp) write.0).0 ≤ a.timestamp) xs)
            → AllByRecursion (λ write. marks_of (versions_for shard_slots) write.0 (version_below same_item (at base) w.entries (suc a.timestamp) write.0).0 ≤ a.timestamp) (x ∷ xs)
        by b (less h) never others = absurd cc
        by b (not_less h) rest others =
            (subst (λ m. m ≤ a.timestamp) (marks_are base header calls w shard_slots slots k x.0 (followed x.0)) (let low : greatest_mark same_item (marks_in shard_slots) x.0 (followed x.0) ≤ a.timestamp = omega (arith, h) in low), others rest)

    checked : IsCheckedCommit same_item IsOfLedger (meaning_of header calls) (at base) (marks_of (versions_for shard_slots)) w.entries a e
    checked = record {
      number = sym is_here.1;
      finished = subst (λ h. history.IsFinished same_item IsOfLedger (meaning_of h calls) e) own.header_same (finished_calls_are_entries calls f a.timestamp n fin (ap (call_of calls) (sym is_here.1) ∙ own.call));
      agrees = subst (λ reads. Agrees reads (state_below same_item (at base) w.entries a.timestamp)) (sym own.reads) agrees;
      in_time = in_time_by f.writes in_time;
    }

    -- after the commit, each item's versions are those that the entry makes of the old ones
    pub versions_new : (x : Item) → versions_for new x ≡ after_entry (λ value. value) same_item e (versions_for shard_slots) x
    versions_new x =
        versions_written a.timestamp a.reads f.writes shard_slots new written x (held_all base w.low shard_slots k.shards x)
        ∙ ap (λ reads. committed_versions a.timestamp reads f.writes x (versions_for shard_slots x)) (sym own.reads)

    live_new : live_in (set slots (n - 1) None) (attempts_without a.timestamp w.live) ≡ attempts_without a.timestamp (live_in slots w.live)
    live_new = live_ended slots w.live n a.timestamp above is_here.0 (once base header calls w shard_slots slots k n)

    store_new : IsStore (λ value. value) same_item IsOfLedger (meaning_of header calls) (at base) w.low w.clock w.low (entries_with e w.entries) (live_in (set slots (n - 1) None) (attempts_without a.timestamp w.live)) (versions_for new)
    store_new =
        subst (λ live. IsStore (λ value. value) same_item IsOfLedger (meaning_of header calls) (at base) w.low w.clock w.low (entries_with e w.entries) live (versions_for new)) (sym live_new)
        (every_commit_leaves_a_store_lem Item ItemValue Outcome ItemValue IsOfLedger (λ value. value) same_item items_have_an_equality (meaning_of header calls) (at base) w.low w.clock w.low w.entries (live_in slots w.live) (versions_for shard_slots) (versions_for new)
        k.store a e is_here.2 checked from versions_new)

    -- what it read is marked already
    marked_read : (x : Item) → (reads : ItemMap) → AreMarked same_item (at base) (marks_of (versions_for shard_slots)) w.entries a.timestamp reads → (m : ℕ)
        → mark_after (lookup (same_item x) reads) (followed x) a.timestamp m (mark_in m (versions_for shard_slots x)) ≡ mark_in m (versions_for shard_slots x)
    marked_read x [] h m = refl
    marked_read x (r ∷ rs) h m = by (same_item x r.0) refl (marked_read x rs h.1 m)
      where
        by : (b : Bool) → same_item x r.0 ≡ b
            → mark_after (lookup (same_item x) rs) (followed x) a.timestamp m (mark_in m (versions_for shard_slots x)) ≡ mark_in m (versions_for shard_slots x)
            → mark_after (if b then Some r.1 else lookup (same_item x) rs) (followed x) a.timestamp m (mark_in m (versions_for shard_slots x)) ≡ mark_in m (versions_for shard_slots x)
        by true same rest =
            no_more (followed x) a.timestamp m (mark_in m (versions_for shard_slots x)) (followed x == m) (equals (followed x) m)
            (λ at_m. subst (λ i. a.timestamp ≤ mark_in i (versions_for shard_slots x)) at_m
            (subst (λ v. a.timestamp ≤ mark_in v.0 (versions_for shard_slots x)) (sym (next_below same_item a.timestamp w.entries x (0, at base x) fresh))
            (subst (λ y. a.timestamp ≤ mark_in (version_below same_item (at base) w.entries a.timestamp y).0 (versions_for shard_slots y)) (sym (items_have_an_equality.exact x r.0 same)) h.0)))
        by false other rest = rest

    -- after the commit the store keeps its facts, and has committed the attempt
    pub kept_committed : IsKeptStore base header calls (after_commit w e) new (set slots (n - 1) None) × IsCommitted (store_shown base header calls w shard_slots slots) (store_shown base header calls (after_commit w e) new (set slots (n - 1) None)) n a.timestamp f
    kept_committed = (
      record {
        orderly = k.orderly;
        store = store_new;
        shards = over_written base w.low a.timestamp a.reads f.writes shard_slots new written k.shards;
        are_calls = all_with same_item (λ (g : CallEntry). IsSome (call_of calls g.number)) e w.entries (subst IsSome (sym own.call ∙ ap (call_of calls) is_here.1) refl) k.are_calls;
        live_calls = all_without (λ (b : CallAttempt). (0 < b.number) × (b.number ≤ length calls)) a.timestamp w.live k.live_calls;
        count = length-set slots (n - 1) None ∙ k.count;
        attempts = slots_ended slots w.live n a.timestamp above inside is_here.0 (once base header calls w shard_slots slots k n) k.attempts;
      },
      record {
        event = record { clock = refl; low = refl; entries = refl; live = live_new; marks = λ x m counts. same_marks x m };
        versions = versions_new;
        others = refl;
      },
    )
      where
        same_marks : (x : Item) (m : ℕ) → greatest_mark same_item (marks_in new) x m ≡ greatest_mark same_item (marks_in shard_slots) x m
        same_marks x m =
            marks_of_slots new (λ y. (store_new.holds y).chain) x m ∙ ap (mark_in m) (versions_new x)
            ∙ commit_mark base w.entries k.store.consistent.journal.rising e fresh positive w.low (versions_for shard_slots) k.store.holds from x m
            ∙ ap (λ reads. mark_after (lookup (same_item x) reads) (followed x) a.timestamp m (mark_in m (versions_for shard_slots x))) own.reads ∙ marked_read x a.reads marked m
            ∙ sym (marks_are base header calls w shard_slots slots k x m)
