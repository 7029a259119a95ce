-- What the calls of a store make of what it keeps, by the contracts of the journal and of the shards that are held.
use Rattle.std.proofs.Common.{◌≡◌, ℕ, ◌+◌, ◌-◌, ◌<◌, ◌≤◌, ◌==◌, Bool, nat_lt, if◌then◌else◌, length, Option, None, Some, get_or, set, refl, sym, ap, ◌∙◌, subst, arith, inl, inr}
use Rattle.std.specs.Prelude.{◌⊎◌, ◌||◌, ◌^◌, IsSome}
use Rattle.std.proofs.lemmas.List.{get_or-set_other}
use Rattle.std.proofs.lemmas.Option.{same_Some}
use Rattle.teal_value.specs.declared.failure.Failure.{Failure}
use Rattle.teal_value.specs.declared.failure.Failure.TheVariants as failure
use Rattle.avm_items.specs.declared.item.Item.{Item}
use Rattle.avm_items.specs.declared.item_value.ItemValue.{ItemValue}
use Rattle.avm_items.specs.LedgerItems.{at}
use Rattle.mv_history.specs.History.{commit_count}
use Rattle.mv_history.specs.World.{after_abandon, after_begin, attempt_at, fresh_attempt, live_count, low_after_prune}
use Rattle.mv_history.proofs.Attempts.{found_attempt}
use Rattle.mv_history.proofs.Lists.{Compared, less, not_less, compared, Equals, equal, unequal, equals}
use Rattle.mv_parts.specs.CallHistory.{CallAttempt}
use Rattle.mv_shards.specs.declared.read_fault.ReadFault.{ReadFault}
use Rattle.mv_shards.specs.declared.read_fault.ReadFault.TheVariants.{Pruned}
use Rattle.mv_shards.specs.Indexes.{shard_of}
use Rattle.mv_shards.specs.Shards as shard
use Rattle.mv_shards.specs.Shards.{Shard}
use Rattle.mv_shards.specs.Helds.{ArePruned, IsHeld, IsPrunedIn, IsPrunedSlot, ShardSlots, shard_for}
use Rattle.mv_parts.specs.declared.begin_fault.BeginFault.{BeginFault}
use Rattle.mv_parts.specs.declared.begin_fault.BeginFault.TheVariants.{ClockEnd, Done, NoCall, Taken}
use Rattle.mv_parts.specs.Journals as journal
use Rattle.mv_parts.specs.Journals.{IsBeginRefusal, IsOfNumber, Journal, begin_fault}
use Rattle.mv_parts.specs.Agreeing.{AllAgree, ShardAgrees}
use Rattle.mv_parts.proofs.Agreeing.{every_abandon_keeps_agreement, every_begin_keeps_agreement, every_prune_keeps_agreement, every_read_keeps_agreement}
use Rattle.mv_core.specs.AllShards.{IsShardOver}
use Rattle.mv_parts.proofs.Opens.{index_within}
use Rattle.mv_shards.proofs.Steps.{set_here}
use Rattle.mv_core.specs.AttemptSlots.{HasLiveNumber, IsNowhere, IsAttemptAt, live_in}
use Rattle.mv_core.specs.declared.faults.ReadFault.{ReadFault as StoreReadFault}
use Rattle.mv_core.specs.declared.faults.ReadFault.TheVariants.{Unknown}
use Rattle.mv_core.specs.Calls.{IsKeptByJournal, as_journal, shown_by}
use Rattle.mv_core.specs.Stores.{CallSlots, IsFirstRead, IsPrune, IsPrunedFor, IsPrunedAttempt, IsReadAgain, IsReadSlot}
use Rattle.mv_core.proofs.Attempts.{attempt_here, count_in, live_here, live_there, not_live_none, not_live_other}
use Rattle.mv_core.proofs.Events.{kept_abandoned, kept_again, kept_begun, kept_pruned, kept_read, never_pruned, once}
use Rattle.mv_core.proofs.Tickets.{at_none}

-- ---- begin

record BeginsAt (j : Journal) (n : ℕ) : Type 0 where
  above : 0 < n
  within : n ≤ length j.calls
  uncommitted : commit_count n j.world.entries ≡ 0
  idle : live_count n j.world.live ≡ 0

begins_at : (j : Journal) (n : ℕ) → begin_fault j n ≡ None → BeginsAt j n
begins_at j n e =
    by (n == 0) (nat_lt (length j.calls) n) (nat_lt 0 (commit_count n j.world.entries)) (nat_lt 0 (live_count n j.world.live)) (equals n 0) (compared (length j.calls) n) (compared 0 (commit_count n j.world.entries)) (compared 0 (live_count n j.world.live)) e
  where
    by : (a b c d : Bool) → Equals n 0 a → Compared (length j.calls) n b → Compared 0 (commit_count n j.world.entries) c → Compared 0 (live_count n j.world.live) d
        → (if a || b then Some NoCall else if c then Some Done else if d then Some Taken else if j.world.clock == 2 ^ 64 - 1 then Some ClockEnd else None) ≡ None → BeginsAt j n
    by a b c d (equal h) within done taken is = absurd cc
    by a b c d (unequal h) (less k) done taken is = absurd cc
    by a b c d (unequal h) (not_less k) (less m) taken is = absurd cc
    by a b c d (unequal h) (not_less k) (not_less m) (less l) is = absurd cc
    by a b c d (unequal h) (not_less k) (not_less m) (not_less l) is = record { above = omega (arith, h); within = k; uncommitted = omega (arith, m); idle = omega (arith, l) }

module _ (j : Journal) (shard_slots : ShardSlots) (slots : CallSlots) where
  -- what is seen says the same of a beginning
  pub same_fault : (n : ℕ) → begin_fault (as_journal (shown_by j shard_slots slots)) n ≡ begin_fault j n
  same_fault n = ap
      (λ m.
      if (n == 0) || nat_lt (length j.calls) n then Some NoCall
      else if nat_lt 0 (commit_count n j.world.entries) then Some Done
      else if nat_lt 0 m then Some Taken
      else if j.world.clock == 2 ^ 64 - 1 then Some ClockEnd
      else None)
      (count_in slots n j.world.live)

  pub refusal_shown : (n : ℕ) (f : Failure BeginFault) → IsBeginRefusal j n f → IsBeginRefusal (as_journal (shown_by j shard_slots slots)) n f
  refusal_shown n failure.Memory h = same_fault n ∙ h
  refusal_shown n (failure.Fault f) h = same_fault n ∙ h

  -- after a begin the store keeps its facts, and shows the world after it
  pub store_begun : (new : Journal) (n : ℕ) (a : CallAttempt) → begin_fault j n ≡ None → new ≡ record j { world = after_begin j.world n } → a ≡ fresh_attempt n (j.world.clock + 1) → IsKeptByJournal j shard_slots slots
      → IsKeptByJournal new shard_slots (set slots (n - 1) (Some a)) × (shown_by new shard_slots (set slots (n - 1) (Some a)) ≡ record (shown_by j shard_slots slots) { world = after_begin (shown_by j shard_slots slots).world n })
  store_begun new n a none is begun k =
      let b = begins_at j n none in
      subst (λ c. IsKeptByJournal new shard_slots (set slots (n - 1) (Some c)) × (shown_by new shard_slots (set slots (n - 1) (Some c)) ≡ record (shown_by j shard_slots slots) { world = after_begin (shown_by j shard_slots slots).world n })) (sym begun)
      (subst (λ i. IsKeptByJournal i shard_slots (set slots (n - 1) (Some (fresh_attempt n (j.world.clock + 1)))) × (shown_by i shard_slots (set slots (n - 1) (Some (fresh_attempt n (j.world.clock + 1)))) ≡ record (shown_by j shard_slots slots) { world = after_begin (shown_by j shard_slots slots).world n })) (sym is)
      (let h = kept_begun j.base j.header j.calls j.world shard_slots slots k.kept n b.above b.within b.uncommitted b.idle in (record { kept = h.0; agree = λ i s is. every_begin_keeps_agreement j s n (k.agree i s is) }, h.1)))

  -- a call that begins has a slot
  pub begun_within : (n : ℕ) → begin_fault j n ≡ None → IsKeptByJournal j shard_slots slots → n - 1 < length slots
  begun_within n none k = let b = begins_at j n none in omega (arith, b.above, b.within, k.kept.count)

  -- ---- tickets

  module _ (n t index : ℕ) (p : IsAttemptAt slots n t index) (k : IsKeptByJournal j shard_slots slots) where
    own : get_or slots (n - 1) None ≡ Some p.attempt
    own = ap (λ i. get_or slots i None) (sym p.is) ∙ p.found

    is_here : (HasLiveNumber j.world.live n p.attempt.timestamp) × (p.attempt.number ≡ n) × (attempt_at p.attempt.timestamp (live_in slots j.world.live) ≡ Some p.attempt)
    is_here = attempt_here slots j.world.live n p.attempt p.above p.within own k.kept.attempts

    is_live : HasLiveNumber j.world.live n t
    is_live = subst (λ u. HasLiveNumber j.world.live n u) p.time is_here.0

    -- the attempt in the slot of its call is live
    pub store_placed : HasLiveNumber (shown_by j shard_slots slots).world.live n t
    store_placed = live_here slots j.world.live n t is_live

    -- its attempt is live in the journal
    pub live_in_journal : (a : CallAttempt) → get_or slots index None ≡ Some a → journal.IsLive j.world a
    live_in_journal a found = subst (λ (b : CallAttempt). journal.IsLive j.world b) (same_Some _ _ (sym p.found ∙ found))
        (subst (λ o. IsOfNumber p.attempt.number o) (sym is_here.0.live) (is_here.0.number ∙ sym is_here.1))

    -- after the attempt is abandoned the store keeps its facts, and shows the world after it
    pub store_abandoned : (new : Journal) (a : CallAttempt) → get_or slots index None ≡ Some a → new ≡ record j { world = after_abandon j.world a.timestamp }
        → IsKeptByJournal new shard_slots (set slots index None) × (shown_by new shard_slots (set slots index None) ≡ record (shown_by j shard_slots slots) { world = after_abandon (shown_by j shard_slots slots).world t })
    store_abandoned new a found is =
        subst (λ i. IsKeptByJournal i shard_slots (set slots index None) × (shown_by i shard_slots (set slots index None) ≡ record (shown_by j shard_slots slots) { world = after_abandon (shown_by j shard_slots slots).world t }))
        (sym (is ∙ ap (λ (b : CallAttempt). record j { world = after_abandon j.world b.timestamp }) (same_Some _ _ (sym found ∙ p.found)) ∙ ap (λ u. record j { world = after_abandon j.world u }) p.time))
        (subst (λ i. IsKeptByJournal (record j { world = after_abandon j.world t }) shard_slots (set slots i None) × (shown_by (record j { world = after_abandon j.world t }) shard_slots (set slots i None) ≡ record (shown_by j shard_slots slots) { world = after_abandon (shown_by j shard_slots slots).world t })) (sym p.is)
        (let h = kept_abandoned j.base j.header j.calls j.world shard_slots slots k.kept n t p.above p.within is_live in (record { kept = h.0; agree = λ i s is. every_abandon_keeps_agreement j s t (k.agree i s is) }, h.1)))

    -- what was taken from the index
    pub store_abandoned_at : (new : Journal) (o : Option CallAttempt) (a : CallAttempt) (left d : Option CallAttempt) → o ≡ d → d ≡ get_or slots index d → o ≡ Some a → left ≡ None → new ≡ record j { world = after_abandon j.world a.timestamp }
        → IsKeptByJournal new shard_slots (set slots index left) × (shown_by new shard_slots (set slots index left) ≡ record (shown_by j shard_slots slots) { world = after_abandon (shown_by j shard_slots slots).world t })
    store_abandoned_at new o a left d taken there found gone is =
        subst (λ e. IsKeptByJournal new shard_slots (set slots index e) × (shown_by new shard_slots (set slots index e) ≡ record (shown_by j shard_slots slots) { world = after_abandon (shown_by j shard_slots slots).world t })) (sym gone)
        (store_abandoned new a (at_none slots index d (Some a) (omega (arith, p.is, p.within)) (sym there ∙ sym taken ∙ found)) is)

    -- ---- a read

    pub all_held : (x : Item) → IsHeld shard_slots x
    all_held x = by (shard_for shard_slots x) (k.kept.shards.each (shard_of x) (index_within x))
      where
        by : (o : Option Shard) → IsShardOver j.base j.world.low (shard_of x) o → IsSome o
        by None over = absurd over
        by (Some s) over = refl

    -- no item is pruned above the timestamp of a live attempt
    pub store_never_pruned : (x : Item) → IsPrunedAttempt shard_slots slots index x → ⊥
    store_never_pruned x pruned = by (shard_for shard_slots x) refl (subst (λ o. IsPrunedFor shard_slots o x) p.found pruned)
      where
        by : (o : Option Shard) → shard_for shard_slots x ≡ o → IsPrunedIn o p.attempt x → ⊥
        by None here h = h
        by (Some s) here h = never_pruned j.base j.header j.calls j.world shard_slots slots k.kept n p.attempt p.attempt x (value_of s x) s s p.above p.within own here h
          where
            value_of : Shard → Item → ItemValue
            value_of s x = at s.base x

    -- a read in the shards is a read of the store, which keeps its facts
    pub store_read : (new : ShardSlots) (new_slots : CallSlots) (x : Item) (v : ItemValue) → IsReadSlot shard_slots new slots new_slots index x v
        → IsKeptByJournal j new new_slots × (IsFirstRead (shown_by j shard_slots slots) (shown_by j new new_slots) n t x v ⊎ IsReadAgain (shown_by j shard_slots slots) (shown_by j new new_slots) n t x v)
    store_read new new_slots x v r =
        subst (λ ss. Goal new ss) (sym (r.others ∙ ap (λ i. set slots i (Some r.after)) p.is))
        (subst (λ ps. Goal ps (set slots (n - 1) (Some r.after))) (sym r.read.others) (by r.read.read))
      where
        Goal : ShardSlots → CallSlots → Type 0
        Goal ps ss = IsKeptByJournal j ps ss × (IsFirstRead (shown_by j shard_slots slots) (shown_by j ps ss) n t x v ⊎ IsReadAgain (shown_by j shard_slots slots) (shown_by j ps ss) n t x v)

        found : get_or slots (n - 1) None ≡ Some r.before
        found = ap (λ i. get_or slots i None) (sym p.is) ∙ r.found

        from : j.world.low ≤ r.before.timestamp
        from =
            subst (λ (b : CallAttempt). j.world.low ≤ b.timestamp) (same_Some _ _ (sym p.found ∙ r.found))
            (found_attempt (λ (b : CallAttempt). j.world.low ≤ b.timestamp) p.attempt.timestamp p.attempt (live_in slots j.world.live) is_here.2 k.kept.store.consistent.schedule.low_live)

        time : r.before.timestamp ≡ t
        time = ap (λ (b : CallAttempt). b.timestamp) (same_Some _ _ (sym r.found ∙ p.found)) ∙ p.time

        -- the shard that was read agrees still, and so do the others
        agree_read : shard.IsFirstRead r.read.shard r.read.read_shard r.before r.after x v ⊎ shard.IsReadAgain r.read.shard r.read.read_shard r.before r.after x v → AllAgree j (set shard_slots (shard_of x) (Some r.read.read_shard))
        agree_read read i s is = at_index (i == shard_of x) (equals i (shard_of x))
          where
            at_index : (b : Bool) → Equals i (shard_of x) b → ShardAgrees j s
            at_index b (equal e) =
                let here : get_or (set shard_slots (shard_of x) (Some r.read.read_shard)) i None ≡ Some r.read.read_shard =
                ap (λ m. get_or (set shard_slots (shard_of x) (Some r.read.read_shard)) m None) e ∙ set_here shard_slots (shard_of x) r.read.shard r.read.read_shard r.read.found in
                subst (ShardAgrees j) (same_Some _ _ (sym here ∙ is))
                (every_read_keeps_agreement j r.read.shard r.read.read_shard r.before r.after x v read (k.agree (shard_of x) r.read.shard r.read.found))
            at_index b (unequal e) = k.agree i s (sym (get_or-set_other shard_slots (shard_of x) i (Some r.read.read_shard) None e) ∙ is)

        by : (shard.IsFirstRead r.read.shard r.read.read_shard r.before r.after x v ⊎ shard.IsReadAgain r.read.shard r.read.read_shard r.before r.after x v)
            → Goal (set shard_slots (shard_of x) (Some r.read.read_shard)) (set slots (n - 1) (Some r.after))
        by (inl first) =
            let h = kept_read j.base j.header j.calls j.world shard_slots slots k.kept n r.before r.after x v r.read.shard r.read.read_shard p.above p.within found r.read.found first in
            (record { kept = h.0; agree = agree_read (inl first) }, inl (subst (λ u. IsFirstRead (shown_by j shard_slots slots) (shown_by j (set shard_slots (shard_of x) (Some r.read.read_shard)) (set slots (n - 1) (Some r.after))) n u x v) time h.1))
        by (inr again) =
            let h = kept_again j.base j.header j.calls j.world shard_slots slots k.kept n r.before r.after x v r.read.shard r.read.read_shard p.above p.within found r.read.found again in
            (record { kept = h.0; agree = agree_read (inr again) }, inr (subst (λ u. IsReadAgain (shown_by j shard_slots slots) (shown_by j (set shard_slots (shard_of x) (Some r.read.read_shard)) (set slots (n - 1) (Some r.after))) n u x v) time h.1))

  -- a call is not live at a timestamp at which its slot has no attempt
  pub store_nowhere : (n t : ℕ) → IsNowhere slots n t → IsKeptByJournal j shard_slots slots → HasLiveNumber (shown_by j shard_slots slots).world.live n t → ⊥
  store_nowhere n t nowhere k live = by (get_or slots (n - 1) None) refl
    where
      l : HasLiveNumber j.world.live n t
      l = live_there slots j.world.live n t live

      numbered : (0 < n) × (n ≤ length j.calls)
      numbered = subst (λ m. (0 < m) × (m ≤ length j.calls)) l.number (found_attempt (λ (a : CallAttempt). (0 < a.number) × (a.number ≤ length j.calls)) t l.attempt j.world.live l.live k.kept.live_calls)

      within : n - 1 < length slots
      within = omega (arith, numbered.0, numbered.1, k.kept.count)

      by : (o : Option CallAttempt) → get_or slots (n - 1) None ≡ o → ⊥
      by None found = not_live_none slots j.world.live n t numbered.0 within found k.kept.attempts l
      by (Some a) found = not_live_other slots j.world.live n t a numbered.0 within found k.kept.attempts (once j.base j.header j.calls j.world shard_slots slots k.kept n) (nowhere a numbered.0 found) l

  -- ---- a prune

  -- after a prune of the journal and the shards the store keeps its facts, and shows a prune
  pub store_pruned : (new_journal : Journal) (new : ShardSlots) (t : ℕ) → new_journal ≡ record j { world = record (j.world) { low = low_after_prune j.world t } } → ArePruned (low_after_prune j.world t) shard_slots new → IsKeptByJournal j shard_slots slots
      → IsKeptByJournal new_journal new slots × IsPrune (shown_by j shard_slots slots) (shown_by new_journal new slots) t
  store_pruned new_journal new t is pruned k = subst (λ i. IsKeptByJournal i new slots × IsPrune (shown_by j shard_slots slots) (shown_by i new slots) t) (sym is)
      (let h = kept_pruned j.base j.header j.calls j.world shard_slots slots k.kept t new pruned in (record { kept = h.0; agree = agree_pruned }, h.1))
    where
      agree_pruned : AllAgree (record j { world = record (j.world) { low = low_after_prune j.world t } }) new
      agree_pruned i s is = by (get_or shard_slots i None) refl (subst (IsPrunedSlot (low_after_prune j.world t) (get_or shard_slots i None)) is (pruned i))
        where
          by : (o : Option Shard) → get_or shard_slots i None ≡ o → IsPrunedSlot (low_after_prune j.world t) o (Some s) → ShardAgrees (record j { world = record (j.world) { low = low_after_prune j.world t } }) s
          by None here h = absurd h
          by (Some old) here h = every_prune_keeps_agreement j old s t h (k.agree i old here)

  -- ---- nothing changed

  pub store_same : (new : ShardSlots) (new_slots : CallSlots) → new ≡ shard_slots → new_slots ≡ slots → IsKeptByJournal j shard_slots slots → IsKeptByJournal j new new_slots
  store_same new new_slots same_shard_slots same_slots k = subst (λ ss. IsKeptByJournal j new ss) (sym same_slots) (subst (λ ps. IsKeptByJournal j ps slots) (sym same_shard_slots) k)

-- the shards refuse for one reason alone
pub only_pruned : (r : ReadFault) → r ≡ Pruned
only_pruned Pruned = refl

-- a read of the store has one fault alone, that the attempt is unknown
pub only_unknown : (r : StoreReadFault) → r ≡ Unknown
only_unknown Unknown = refl
