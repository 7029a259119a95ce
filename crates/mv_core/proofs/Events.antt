-- What each event makes of what a store keeps.
use Rattle.std.proofs.Common.{◌≡◌, ◌≢◌, ℕ, zero, suc, ◌+◌, ◌-◌, ◌<◌, ◌≤◌, ◌==◌, ◌&&◌, min, max, Bool, true, false, nat_lt, if◌then◌else◌, List, [], ◌∷◌, ◌++◌, length, Option, None, Some, get_or, set, refl, sym, ap, ◌∙◌, subst, arith, inl, inr}
use Rattle.std.specs.Prelude.{◌⊎◌}
use Rattle.std.specs.List.{AllByRecursion, insert}
use Rattle.std.proofs.lemmas.List.{length-set}
use Rattle.avm_ledger.specs.declared.header.Header.{Header}
use Rattle.avm_ledger.specs.Ledgers.{Ledger}
use Rattle.avm_items.specs.declared.call_data.CallData.{CallData}
use Rattle.avm_items.specs.declared.item.Item.{Item}
use Rattle.avm_items.specs.declared.item_value.ItemValue.{ItemValue}
use Rattle.avm_items.specs.LedgerItems.{at}
use Rattle.avm_call.specs.declared.outcome.Outcome.{Outcome}
use Rattle.avm_laws.specs.LedgerLooks.{IsOfLedger}
use Rattle.mv_chain.specs.declared.chain.Version.{Version}
use Rattle.mv_chain.specs.Laws.{HasMarksFrom}
use Rattle.mv_chain.specs.Versions.{IsChain, mark_in, newest_at, oldest_timestamp, versions_from, versions_read_at}
use Rattle.mv_chain.proofs.Marks.{every_prune_keeps_marks_lem, every_read_raises_one_mark_lem}
use Rattle.mv_history.specs.History.{commit_count, version_below}
use Rattle.mv_history.specs.Schedule.{IsConsistent, IsConsistentWorld, IsSchedule}
use Rattle.mv_history.specs.SameWorlds.{HaveSameMarks}
use Rattle.mv_history.specs.World.{IsLowerBound, KeepsNeededMarks, after_abandon, after_begin, attempt_at, attempts_with_read, attempts_without, fresh_attempt, greatest_mark, live_count, low_after_prune, lowest_live}
use Rattle.mv_history.proofs.Attempts.{all_without, found_attempt, lowest_live-at_most, pruned_below}
use Rattle.mv_history.proofs.Events.{schedule_after_abandon, schedule_after_begin}
use Rattle.mv_history.proofs.Lists.{Compared, less, not_less, compared, all_map, all_push}
use Rattle.mv_history.proofs.SameWorlds.{version_below-monotone}
use Rattle.mv_history.proofs.Worlds.{greatest_mark-push}
use Rattle.mv_chain.specs.Stores.{IsStore, KeepsMarksFrom, marks_of}
use Rattle.mv_chain.proofs.Stores.{every_prune_leaves_a_store_lem, every_read_leaves_a_store_lem}
use Rattle.mv_parts.specs.CallHistory.{CallAttempt, CallWorld, meaning_of, same_item}
use Rattle.mv_parts.proofs.SerialCalls.{items_have_an_equality}
use Rattle.mv_shards.specs.Indexes.{shard_count, shard_of}
use Rattle.mv_shards.specs.Chains.{with_versions}
use Rattle.mv_shards.specs.Shards.{Shard, versions_held}
use Rattle.mv_shards.specs.Shards as shard
use Rattle.mv_shards.specs.Helds.{ArePruned, ShardSlots, shard_for}
use Rattle.mv_shards.specs.Writing.{versions_for, versions_or_none}
use Rattle.mv_core.specs.AllShards.{IsShardOver}
use Rattle.mv_parts.proofs.Opens.{index_within}
use Rattle.mv_core.specs.Running.{index_among}
use Rattle.mv_core.proofs.Workers.{with_item-new}
use Rattle.mv_core.specs.AttemptSlots.{HasLiveNumber, live_in}
use Rattle.mv_core.specs.Stores.{CallSlots, IsFirstRead, IsKeptStore, IsPrune, IsReadAgain, marks_in, store_shown}
use Rattle.mv_core.proofs.Attempts.{all_in, attempt_here, count_in, live_begun, live_ended, live_read, slots_begun, slots_ended, slots_read}
use Rattle.mv_core.proofs.Held.{IsRaisedSlot, marks_of_slots, none_stays, raised_slot, shards_after_read, versions_after_read}

-- a read leaves one mark
one_mark : {V : Type 0} (t n found g : ℕ) (vs : List (Version V)) → IsChain vs → oldest_timestamp vs ≤ t → ((d : Version V) → (newest_at t vs d).timestamp ≡ found) → g ≡ mark_in n vs
    → mark_in n (versions_read_at t vs) ≡ (if found == n then max t g else g)
one_mark t n found g [] chain old is same = absurd chain
one_mark {V} t n found g (v ∷ vs) chain old is same =
    every_read_raises_one_mark_lem V t n (v ∷ vs) v chain old ∙ ap (λ m. if m == n then max (mark_in n (v ∷ vs)) t else mark_in n (v ∷ vs)) (is v) ∙ by (found == n)
  where
    by : (b : Bool) → (if b then max (mark_in n (v ∷ vs)) t else mark_in n (v ∷ vs)) ≡ (if b then max t g else g)
    by true = omega (arith, same)
    by false = sym same

lowest_in : (bound : ℕ) (slots : CallSlots) (live : List CallAttempt) → lowest_live bound (live_in slots live) ≡ lowest_live bound live
lowest_in bound slots [] = refl
lowest_in bound slots (a ∷ as') = ap (λ m. min a.timestamp m) (lowest_in bound slots as')

set_same : {X : Type 0} (xs : List (Option X)) (i : ℕ) (x : X) → get_or xs i None ≡ Some x → set xs i (Some x) ≡ xs
set_same [] i x found = refl
set_same (o ∷ os) zero x found = ap (λ p. p ∷ os) (sym found)
set_same (o ∷ os) (suc i) x found = ap (λ ps. o ∷ ps) (set_same os i x found)

module _ (base : Ledger) (header : Header) (calls : List CallData) (w : CallWorld) (shard_slots : ShardSlots) (slots : CallSlots) (k : IsKeptStore base header calls w shard_slots slots) where
  -- the marks that are listed are the versions'
  pub marks_are : (x : Item) (n : ℕ) → greatest_mark same_item (marks_in shard_slots) x n ≡ marks_of (versions_for shard_slots) x n
  marks_are = marks_of_slots shard_slots (λ x. (k.store.holds x).chain)

  -- the facts hold of the world that the store shows
  pub consistent_world : IsConsistentWorld same_item IsOfLedger (meaning_of header calls) (at base) (store_shown base header calls w shard_slots slots).world
  consistent_world =
      let same : greatest_mark same_item (marks_in shard_slots) ≡ marks_of (versions_for shard_slots) = λ i x n. marks_are x n i in
      subst (λ mark. IsConsistent same_item IsOfLedger (meaning_of header calls) (at base) mark w.clock w.low w.entries (live_in slots w.live)) (sym same) k.store.consistent

  -- no call is live twice
  pub once : (n : ℕ) → live_count n w.live ≤ 1
  once n = omega (arith, k.store.consistent.schedule.once n, count_in slots n w.live)

  -- ---- a call begins

  -- after a begin the store keeps its facts, and shows the world after it
  pub kept_begun : (n : ℕ) → 0 < n → n ≤ length calls → commit_count n w.entries ≡ 0 → live_count n w.live ≡ 0
      → IsKeptStore base header calls (after_begin w n) shard_slots (set slots (n - 1) (Some (fresh_attempt n (w.clock + 1))))
      × (store_shown base header calls (after_begin w n) shard_slots (set slots (n - 1) (Some (fresh_attempt n (w.clock + 1)))) ≡ record (store_shown base header calls w shard_slots slots) { world = after_begin (store_shown base header calls w shard_slots slots).world n })
  kept_begun n above within uncommitted idle = (
    record {
      orderly = k.orderly;
      store = record {
        holds = k.store.holds;
        consistent = record {
          journal = k.store.consistent.journal;
          schedule = subst (λ l. IsSchedule same_item (at base) (marks_of (versions_for shard_slots)) (w.clock + 1) w.low w.entries l) (sym live)
              (schedule_after_begin same_item (at base) (marks_of (versions_for shard_slots)) w.clock w.low n w.entries (live_in slots w.live) uncommitted (count_in slots n w.live ∙ idle) k.store.consistent.schedule);
        };
      };
      shards = k.shards;
      are_calls = k.are_calls;
      live_calls = all_push (λ (a : CallAttempt). (0 < a.number) × (a.number ≤ length calls)) w.live (fresh_attempt n (w.clock + 1)) k.live_calls (above, within);
      count = length-set slots (n - 1) (Some (fresh_attempt n (w.clock + 1))) ∙ k.count;
      attempts = slots_begun slots w.live n (w.clock + 1) above inside fresh k.attempts;
    },
    ap (λ l. record { base = base; header = header; calls = calls; shard_slots = shard_slots; world = record { clock = w.clock + 1; low = w.low; entries = w.entries; marks = marks_in shard_slots; live = l } }) live,
  )
    where
      inside : n - 1 < length slots
      inside = omega (arith, k.count)

      live : live_in (set slots (n - 1) (Some (fresh_attempt n (w.clock + 1)))) (w.live ++ fresh_attempt n (w.clock + 1) ∷ []) ≡ live_in slots w.live ++ fresh_attempt n (w.clock + 1) ∷ []
      live = live_begun slots w.live n (w.clock + 1) above inside idle

      past : AllByRecursion (λ (a : CallAttempt). (0 < a.timestamp) × (a.timestamp ≤ w.clock)) w.live
      past = all_in (λ t. (0 < t) × (t ≤ w.clock)) slots w.live k.store.consistent.schedule.live_past

      fresh : AllByRecursion (λ (a : CallAttempt). a.timestamp ≢ w.clock + 1) w.live
      fresh = all_map (λ (a : CallAttempt). (0 < a.timestamp) × (a.timestamp ≤ w.clock)) _ w.live (λ a h same. omega (arith, h.1, same)) past

  -- ---- an attempt is abandoned

  -- after an attempt is abandoned the store keeps its facts, and shows the world after it
  pub kept_abandoned : (n t : ℕ) → 0 < n → n - 1 < length slots → HasLiveNumber w.live n t
      → IsKeptStore base header calls (after_abandon w t) shard_slots (set slots (n - 1) None)
      × (store_shown base header calls (after_abandon w t) shard_slots (set slots (n - 1) None) ≡ record (store_shown base header calls w shard_slots slots) { world = after_abandon (store_shown base header calls w shard_slots slots).world t })
  kept_abandoned n t above inside is_live = (
    record {
      orderly = k.orderly;
      store = record {
        holds = k.store.holds;
        consistent = record {
          journal = k.store.consistent.journal;
          schedule = subst (λ l. IsSchedule same_item (at base) (marks_of (versions_for shard_slots)) w.clock w.low w.entries l) (sym live)
              (schedule_after_abandon same_item (at base) (marks_of (versions_for shard_slots)) w.clock w.low t w.entries (live_in slots w.live) k.store.consistent.schedule);
        };
      };
      shards = k.shards;
      are_calls = k.are_calls;
      live_calls = all_without (λ (a : CallAttempt). (0 < a.number) × (a.number ≤ length calls)) t w.live k.live_calls;
      count = length-set slots (n - 1) None ∙ k.count;
      attempts = slots_ended slots w.live n t above inside is_live (once n) k.attempts;
    },
    ap (λ l. record { base = base; header = header; calls = calls; shard_slots = shard_slots; world = record { clock = w.clock; low = w.low; entries = w.entries; marks = marks_in shard_slots; live = l } }) live,
  )
    where
      live : live_in (set slots (n - 1) None) (attempts_without t w.live) ≡ attempts_without t (live_in slots w.live)
      live = live_ended slots w.live n t above is_live (once n)

  -- ---- an item is read

  module _ (n : ℕ) (before after : CallAttempt) (x : Item) (v : ItemValue) (s new : Shard) (above : 0 < n) (inside : n - 1 < length slots) (found : get_or slots (n - 1) None ≡ Some before) (here : shard_for shard_slots x ≡ Some s) where
    is_here : (HasLiveNumber w.live n before.timestamp) × (before.number ≡ n) × (attempt_at before.timestamp (live_in slots w.live) ≡ Some before)
    is_here = attempt_here slots w.live n before above inside found k.attempts

    from : w.low ≤ before.timestamp
    from = found_attempt (λ (a : CallAttempt). w.low ≤ a.timestamp) before.timestamp before (live_in slots w.live) is_here.2 k.store.consistent.schedule.low_live

    abbrev new_shard_slots : ShardSlots
    new_shard_slots = set shard_slots (shard_of x) (Some (record s { chains = with_versions s.chains x (versions_read_at before.timestamp (versions_held s x)) }))

    abbrev new_slots : CallSlots
    new_slots = set slots (n - 1) (Some after)

    value_found : ((d : Version ItemValue) → v ≡ (newest_at before.timestamp (versions_held s x) d).value) → v ≡ (version_below same_item (at base) w.entries (suc before.timestamp) x).1
    value_found is =
        let d : Version ItemValue = record { timestamp = 0; mark = 0; value = v } in
        is d ∙ ap (λ o. (newest_at before.timestamp (versions_or_none o x) d).value) (sym here) ∙ ((k.store.holds x).found before.timestamp d from).value

    read_marks : (y : Item) (m : ℕ) → IsChain (versions_for new_shard_slots y)
        → mark_in m (versions_for new_shard_slots y) ≡ greatest_mark same_item (marks_in shard_slots ++ record { item = x; version = (version_below same_item (at base) w.entries (suc before.timestamp) x).0; reader = before.timestamp } ∷ []) y m
    read_marks y m chain =
        ap (mark_in m) (versions_after_read shard_slots x before.timestamp s here y) ∙ by (same_item y x) refl
        ∙ sym (greatest_mark-push same_item (record { item = x; version = (version_below same_item (at base) w.entries (suc before.timestamp) x).0; reader = before.timestamp }) (marks_in shard_slots) y m)
      where
        t : ℕ
        t = before.timestamp

        at_version : ℕ
        at_version = (version_below same_item (at base) w.entries (suc t) x).0

        by : (b : Bool) → same_item y x ≡ b
            → mark_in m (if b then versions_read_at t (versions_for shard_slots x) else versions_for shard_slots y) ≡ (if b && (at_version == m) then max t (greatest_mark same_item (marks_in shard_slots) y m) else greatest_mark same_item (marks_in shard_slots) y m)
        by true same =
            one_mark t m at_version (greatest_mark same_item (marks_in shard_slots) y m) (versions_for shard_slots x) (k.store.holds x).chain (let old : oldest_timestamp (versions_for shard_slots x) ≤ w.low = (k.store.holds x).old_enough in omega (arith, old, from))
            (λ d. ((k.store.holds x).found t d from).timestamp) (marks_are y m ∙ ap (λ z. mark_in m (versions_for shard_slots z)) (items_have_an_equality.exact y x same))
        by false other = sym (marks_are y m)

    -- after the first read of an item the store keeps its facts, and shows that read
    pub kept_read : shard.IsFirstRead s new before after x v
        → IsKeptStore base header calls w (set shard_slots (shard_of x) (Some new)) new_slots × IsFirstRead (store_shown base header calls w shard_slots slots) (store_shown base header calls w (set shard_slots (shard_of x) (Some new)) new_slots) n before.timestamp x v
    kept_read read = subst
        (λ (c : Shard). IsKeptStore base header calls w (set shard_slots (shard_of x) (Some c)) new_slots × IsFirstRead (store_shown base header calls w shard_slots slots) (store_shown base header calls w (set shard_slots (shard_of x) (Some c)) new_slots) n before.timestamp x v)
        (sym read.marks) (kept, event)
      where
        value : v ≡ (version_below same_item (at base) w.entries (suc before.timestamp) x).1
        value = value_found read.value

        more : after ≡ record before { reads = insert before.reads (index_among before.reads x) (x, (version_below same_item (at base) w.entries (suc before.timestamp) x).1) }
        more =
            read.joins ∙ ap (λ rs. record before { reads = rs }) (with_item-new before.reads x v read.first)
            ∙ ap (λ u. record before { reads = insert before.reads (index_among before.reads x) (x, u) }) value

        live : live_in new_slots w.live ≡ attempts_with_read before.timestamp (index_among before.reads x) (x, (version_below same_item (at base) w.entries (suc before.timestamp) x).1) (live_in slots w.live)
        live = live_read slots before after n before.timestamp (index_among before.reads x) (x, (version_below same_item (at base) w.entries (suc before.timestamp) x).1) w.live above inside found more is_here.0 (once n)

        store : IsStore (λ value. value) same_item IsOfLedger (meaning_of header calls) (at base) w.low w.clock w.low w.entries (live_in new_slots w.live) (versions_for new_shard_slots)
        store = subst (λ l. IsStore (λ value. value) same_item IsOfLedger (meaning_of header calls) (at base) w.low w.clock w.low w.entries l (versions_for new_shard_slots)) (sym live)
            (every_read_leaves_a_store_lem Item ItemValue Outcome ItemValue IsOfLedger (λ value. value) same_item items_have_an_equality (meaning_of header calls) (at base) w.low w.clock w.low w.entries (live_in slots w.live)
            (versions_for shard_slots) (versions_for new_shard_slots) k.store before.timestamp (index_among before.reads x) x before is_here.2 from (versions_after_read shard_slots x before.timestamp s here))

        kept : IsKeptStore base header calls w new_shard_slots new_slots
        kept = record {
          orderly = k.orderly;
          store = store;
          shards = shards_after_read shard_slots base w.low (shard_of x) s (record s { chains = with_versions s.chains x (versions_read_at before.timestamp (versions_held s x)) }) (index_within x) here refl refl refl k.shards;
          are_calls = k.are_calls;
          live_calls = k.live_calls;
          count = length-set slots (n - 1) (Some after) ∙ k.count;
          attempts = slots_read slots before after n (index_among before.reads x) (x, (version_below same_item (at base) w.entries (suc before.timestamp) x).1) w.live above inside found more k.attempts;
        }

        event : IsFirstRead (store_shown base header calls w shard_slots slots) (store_shown base header calls w new_shard_slots new_slots) n before.timestamp x v
        event = record {
          attempt = before;
          live = is_here.2;
          number = is_here.1;
          first = read.first;
          value = value;
          event = record {
            clock = refl;
            low = refl;
            entries = refl;
            live = live;
            marks = λ y m counts. marks_of_slots new_shard_slots (λ z. (store.holds z).chain) y m ∙ read_marks y m (store.holds y).chain;
          };
          versions = versions_after_read shard_slots x before.timestamp s here;
          others = refl;
        }

    -- after an item is read again the store keeps its facts, and shows that read
    pub kept_again : shard.IsReadAgain s new before after x v
        → IsKeptStore base header calls w (set shard_slots (shard_of x) (Some new)) new_slots × IsReadAgain (store_shown base header calls w shard_slots slots) (store_shown base header calls w (set shard_slots (shard_of x) (Some new)) new_slots) n before.timestamp x v
    kept_again read =
        subst (λ ps. IsKeptStore base header calls w ps new_slots × IsReadAgain (store_shown base header calls w shard_slots slots) (store_shown base header calls w ps new_slots) n before.timestamp x v) (sym same_shard_slots)
        (subst (λ ss. IsKeptStore base header calls w shard_slots ss × IsReadAgain (store_shown base header calls w shard_slots slots) (store_shown base header calls w shard_slots ss) n before.timestamp x v) (sym same_slots)
        (k, record { attempt = before; live = is_here.2; number = is_here.1; known = read.known; unchanged = refl }))
      where
        same_shard_slots : set shard_slots (shard_of x) (Some new) ≡ shard_slots
        same_shard_slots = ap (λ c. set shard_slots (shard_of x) (Some c)) read.shard ∙ set_same shard_slots (shard_of x) s here

        same_slots : set slots (n - 1) (Some after) ≡ slots
        same_slots = ap (λ a. set slots (n - 1) (Some a)) read.attempt ∙ set_same slots (n - 1) before found

    -- a live attempt is never below the low mark of its item's shard
    pub never_pruned : shard.IsPruned s before x → ⊥
    never_pruned pruned = omega (arith, pruned.below, from, (subst (λ o. IsShardOver base w.low (shard_of x) o) here (k.shards.each (shard_of x) (index_within x))).1)

  -- ---- the low mark rises

  module _ (t : ℕ) (new : ShardSlots) where
    low_below : w.low ≤ low_after_prune w t
    low_below = omega arith

    past_clock : low_after_prune w t ≤ w.clock
    past_clock = omega (arith, k.store.consistent.schedule.low_past, lowest_live-at_most (min t w.clock) w.live)

    same_low : low_after_prune (store_shown base header calls w shard_slots slots).world t ≡ low_after_prune w t
    same_low = ap (max w.low) (lowest_in (min t w.clock) slots w.live)

    bound : IsLowerBound (low_after_prune w t) (live_in slots w.live)
    bound = subst (λ h. IsLowerBound h (live_in slots w.live)) same_low (pruned_below w.low (min t w.clock) (live_in slots w.live) k.store.consistent.schedule.low_live)

    -- what is seen, where the marks are kept that count
    pruned_world : HaveSameMarks same_item (at base) (low_after_prune w t) w.entries (marks_in shard_slots) (marks_in new) → KeepsNeededMarks same_item (at base) (low_after_prune w t) w.entries (marks_in shard_slots) (marks_in new)
        → ((x : Item) → versions_for new x ≡ versions_from (low_after_prune w t) (versions_for shard_slots x)) → IsPrune (store_shown base header calls w shard_slots slots) (store_shown base header calls (record w { low = low_after_prune w t }) new slots) t
    pruned_world same needed versions = record {
      same = same;
      event = ap (λ l. record { clock = w.clock; low = l; entries = w.entries; marks = marks_in new; live = live_in slots w.live }) (sym same_low);
      marks = needed;
      versions = versions;
      others = refl;
    }

    module _ (pruned : ArePruned (low_after_prune w t) shard_slots new) where
      raised_each : (i : ℕ) → i < shard_count → IsRaisedSlot (low_after_prune w t) i base (get_or shard_slots i None) (get_or new i None)
      raised_each i inside = raised_slot (low_after_prune w t) w.low i base (get_or shard_slots i None) (get_or new i None) low_below (k.shards.each i inside) (pruned i)

      raised_versions : (x : Item) → versions_for new x ≡ versions_from (low_after_prune w t) (versions_for shard_slots x)
      raised_versions x = (raised_each (shard_of x) (index_within x)).versions x

      raised_store : IsStore (λ value. value) same_item IsOfLedger (meaning_of header calls) (at base) (low_after_prune w t) w.clock (low_after_prune w t) w.entries (live_in slots w.live) (versions_for new)
          × KeepsMarksFrom same_item (at base) (low_after_prune w t) w.entries (versions_for shard_slots) (versions_for new)
      raised_store = every_prune_leaves_a_store_lem Item ItemValue Outcome ItemValue IsOfLedger (λ value. value) same_item (meaning_of header calls) (at base) w.low w.clock w.low w.entries (live_in slots w.live) (versions_for shard_slots) (versions_for new) k.store
          (low_after_prune w t) low_below low_below past_clock bound raised_versions

      new_marks : (x : Item) (n : ℕ) → greatest_mark same_item (marks_in new) x n ≡ mark_in n (versions_for new x)
      new_marks = marks_of_slots new (λ x. (raised_store.0.holds x).chain)

      kept_or_dropped : (x : Item) (n : ℕ) → (greatest_mark same_item (marks_in new) x n ≡ greatest_mark same_item (marks_in shard_slots) x n) ⊎ (greatest_mark same_item (marks_in new) x n ≡ 0)
      kept_or_dropped x n = at_version (nat_lt n (newest_at (low_after_prune w t) (versions_for shard_slots x) nothing).timestamp) (compared n (newest_at (low_after_prune w t) (versions_for shard_slots x) nothing).timestamp)
        where
          nothing : Version ItemValue
          nothing = record { timestamp = 0; mark = 0; value = at base x }

          from_list : HasMarksFrom (low_after_prune w t) (versions_for shard_slots x) nothing
          from_list = every_prune_keeps_marks_lem ItemValue (low_after_prune w t) (versions_for shard_slots x) nothing (k.store.holds x).chain (omega (arith, (k.store.holds x).old_enough, low_below))

          at_version : (b : Bool) → Compared n (newest_at (low_after_prune w t) (versions_for shard_slots x) nothing).timestamp b
              → (greatest_mark same_item (marks_in new) x n ≡ greatest_mark same_item (marks_in shard_slots) x n) ⊎ (greatest_mark same_item (marks_in new) x n ≡ 0)
          at_version b (less h) = inr (new_marks x n ∙ ap (mark_in n) (raised_versions x) ∙ from_list.dropped n h)
          at_version b (not_less h) = inl (new_marks x n ∙ ap (mark_in n) (raised_versions x) ∙ from_list.kept n h ∙ sym (marks_are x n))

      needed : (x : Item) (u : ℕ) → low_after_prune w t ≤ u
          → greatest_mark same_item (marks_in new) x (version_below same_item (at base) w.entries (suc u) x).0 ≡ greatest_mark same_item (marks_in shard_slots) x (version_below same_item (at base) w.entries (suc u) x).0
      needed x u above =
          new_marks x (version_below same_item (at base) w.entries (suc u) x).0
          ∙ raised_store.1 x (version_below same_item (at base) w.entries (suc u) x).0 (version_below-monotone same_item (at base) (suc (low_after_prune w t)) (suc u) w.entries x (omega (arith, above)) k.store.consistent.journal.rising)
          ∙ sym (marks_are x (version_below same_item (at base) w.entries (suc u) x).0)

      raised : IsKeptStore base header calls (record w { low = low_after_prune w t }) new slots × IsPrune (store_shown base header calls w shard_slots slots) (store_shown base header calls (record w { low = low_after_prune w t }) new slots) t
      raised = (
        record {
          orderly = k.orderly;
          store = raised_store.0;
          shards = record { beyond = λ i above. none_stays (low_after_prune w t) (get_or shard_slots i None) (get_or new i None) (pruned i) (k.shards.beyond i above); each = λ i inside. (raised_each i inside).over };
          are_calls = k.are_calls;
          live_calls = k.live_calls;
          count = k.count;
          attempts = k.attempts;
        },
        pruned_world (λ x n counts. marks_are x n ∙ sym (raised_store.1 x n counts) ∙ sym (new_marks x n)) (record { kept_or_dropped = kept_or_dropped; needed = needed }) raised_versions,
      )

    -- after the prune of the shards the store keeps its facts, and shows the prune
    pub kept_pruned : ArePruned (low_after_prune w t) shard_slots new
        → IsKeptStore base header calls (record w { low = low_after_prune w t }) new slots × IsPrune (store_shown base header calls w shard_slots slots) (store_shown base header calls (record w { low = low_after_prune w t }) new slots) t
    kept_pruned = raised
