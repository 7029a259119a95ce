-- The facts hold in every world that events lead to, and make it serial.
use Rattle.std.proofs.Common.{◌≡◌, ℕ, suc, inl, inr, ◌≤◌, Bool, true, false, if◌then◌else◌, ◌&&◌, ◌==◌, min, max, Some, List, [], ◌∷◌, ◌++◌, refl, sym, ap, ◌∙◌, subst, arith}
use Rattle.mv_history.specs.History.{Entry, CallMeaning, IsEquality, Agrees, state_after, entries_below, state_below, version_below}
use Rattle.mv_history.specs.World.{World, Attempt, Mark, greatest_mark, KeepsNeededMarks, attempt_at, attempts_with_read, low_after_prune, Event, Begin, Read, Commit, Abandon, Prune, Applies, after_event, AllApply, after_events, first_world, IsReachable}
use Rattle.mv_history.specs.Schedule.{IsSchedule, IsConsistent, IsConsistentWorld}
use Rattle.mv_history.specs.Laws.{EveryEventLeadsOn, EveryPruneApplies, EveryListingOfMarksServes}
use Rattle.mv_history.specs.Facts.{EveryConsistentWorldIsSerial, EveryReachableWorldIsConsistent, NoMarkIsAboveTheClock}
use Rattle.mv_history.specs.Serial.{IsSerial, EveryInterleavingIsSerial}
use Rattle.mv_history.proofs.Lists.{Equals, equal, unequal, equals, all_map}
use Rattle.mv_history.proofs.Replay.{ReplaysProperly, replays, replayed_state, proper_below, all_below}
use Rattle.mv_history.proofs.Journals.{journal_replays_properly}
use Rattle.mv_history.proofs.Attempts.{lowest_live-at_most, pruned_below}
use Rattle.mv_history.proofs.Events.{schedule_first, schedule_after_begin, schedule_after_read, schedule_after_abandon, schedule_after_prune, consistent_after_commit}

module _ {Item : Type 0} (same : Item → Item → Bool) where
  -- one more mark
  pub greatest_mark-push : (m : Mark Item) (ms : List (Mark Item)) (x : Item) (v : ℕ)
      → greatest_mark same (ms ++ m ∷ []) x v ≡ (if same x m.item && (m.version == v) then max m.reader (greatest_mark same ms x v) else greatest_mark same ms x v)
  greatest_mark-push m [] x v = refl
  greatest_mark-push m (k ∷ ms) x v = at_tests (same x k.item && (k.version == v)) (same x m.item && (m.version == v)) (greatest_mark-push m ms x v)
    where
      at_tests : (b c : Bool) → greatest_mark same (ms ++ m ∷ []) x v ≡ (if c then max m.reader (greatest_mark same ms x v) else greatest_mark same ms x v)
          → (if b then max k.reader (greatest_mark same (ms ++ m ∷ []) x v) else greatest_mark same (ms ++ m ∷ []) x v)
          ≡ (if c then max m.reader (if b then max k.reader (greatest_mark same ms x v) else greatest_mark same ms x v) else (if b then max k.reader (greatest_mark same ms x v) else greatest_mark same ms x v))
      at_tests true true h = omega arith
      at_tests true false h = omega arith
      at_tests false true h = omega arith
      at_tests false false h = omega arith

  marks_more : (m : Mark Item) (ms : List (Mark Item)) (x : Item) (v : ℕ) → greatest_mark same ms x v ≤ greatest_mark same (ms ++ m ∷ []) x v
  marks_more m ms x v = rw (greatest_mark-push m ms x v) (at_test (same x m.item && (m.version == v)))
    where
      at_test : (c : Bool) → greatest_mark same ms x v ≤ (if c then max m.reader (greatest_mark same ms x v) else greatest_mark same ms x v)
      at_test true = omega arith
      at_test false = omega arith

  marks_not_more : (m : Mark Item) (ms : List (Mark Item)) (x : Item) (v : ℕ) → greatest_mark same (ms ++ m ∷ []) x v ≤ max m.reader (greatest_mark same ms x v)
  marks_not_more m ms x v = rw (greatest_mark-push m ms x v) (at_test (same x m.item && (m.version == v)))
    where
      at_test : (c : Bool) → (if c then max m.reader (greatest_mark same ms x v) else greatest_mark same ms x v) ≤ max m.reader (greatest_mark same ms x v)
      at_test true = omega arith
      at_test false = omega arith

  is_marked : ((x : Item) → same x x ≡ true) → (ms : List (Mark Item)) (x : Item) (v t : ℕ) → t ≤ greatest_mark same (ms ++ record { item = x; version = v; reader = t } ∷ []) x v
  is_marked itself ms x v t = rw (greatest_mark-push (record { item = x; version = v; reader = t }) ms x v, itself x) (at_test (v == v) (equals v v))
    where
      at_test : (c : Bool) → Equals v v c → t ≤ (if c then max t (greatest_mark same ms x v) else greatest_mark same ms x v)
      at_test c (equal h) = omega arith
      at_test c (unequal h) = absurd (h refl)

module _ {Item Value Outcome : Type 0} (same : Item → Item → Bool) (Proper : (Item → Value) → Type 0) (means : CallMeaning Item Value Outcome) (base : Item → Value) where
  -- Read, where marks are a list; `found` is the version below the next timestamp
  pub schedule_after_marked_read : ((x : Item) → same x x ≡ true) → (clock low t index : ℕ) (x : Item) (found : ℕ × Value) (es : List (Entry Item Value Outcome)) (marks : List (Mark Item)) (live : List (Attempt Item Value)) (a : Attempt Item Value)
      → attempt_at t live ≡ Some a → version_below same base es (suc t) x ≡ found
      → IsSchedule same base (greatest_mark same marks) clock low es live
      → IsSchedule same base (greatest_mark same (marks ++ record { item = x; version = found.0; reader = t } ∷ [])) clock low es (attempts_with_read t index (x, found.1) live)
  schedule_after_marked_read itself clock low t index x found es marks live a is_live is_found k =
      subst (λ v. IsSchedule same base (greatest_mark same (marks ++ record { item = x; version = v.0; reader = t } ∷ [])) clock low es (attempts_with_read t index (x, v.1) live)) is_found
      (schedule_after_read same base (greatest_mark same marks) (greatest_mark same (marks ++ record { item = x; version = (version_below same base es (suc t) x).0; reader = t } ∷ [])) clock low t index x es live a is_live
      (marks_more same (record { item = x; version = (version_below same base es (suc t) x).0; reader = t }) marks)
      (marks_not_more same (record { item = x; version = (version_below same base es (suc t) x).0; reader = t }) marks)
      (is_marked same itself marks x (version_below same base es (suc t) x).0 t)
      k)

  -- the facts hold of the first world, and each event that applies keeps them
  pub consistent_first : IsConsistentWorld same Proper means base first_world
  consistent_first = record { journal = record { rising = tt; finished = tt; agree = tt }; schedule = schedule_first same base (greatest_mark same []) (λ x v. refl) }

  pub consistent_after_event : IsEquality same → (w : World Item Value Outcome) (event : Event Item Value Outcome) → Applies same Proper means base w event
      → IsConsistentWorld same Proper means base w → IsConsistentWorld same Proper means base (after_event same base w event)
  consistent_after_event equality w (Begin number) applies k =
      record { journal = k.journal; schedule = schedule_after_begin same base (greatest_mark same w.marks) w.clock w.low number w.entries w.live applies.0 applies.1 k.schedule }
  consistent_after_event equality w (Read t index x) applies k =
      record { journal = k.journal; schedule = schedule_after_marked_read equality.itself w.clock w.low t index x (version_below same base w.entries (suc t) x) w.entries w.marks w.live applies.0 applies.1 refl k.schedule }
  consistent_after_event equality w (Commit e) applies k =
      consistent_after_commit same Proper means base equality.exact (greatest_mark same w.marks) w.clock w.low w.entries w.live applies.0 e applies.1 applies.2 applies.3 k
  consistent_after_event equality w (Abandon t) applies k =
      record { journal = k.journal; schedule = schedule_after_abandon same base (greatest_mark same w.marks) w.clock w.low t w.entries w.live k.schedule }
  consistent_after_event equality w (Prune t marks) applies k =
      record {
        journal = k.journal;
        schedule = schedule_after_prune same base (greatest_mark same w.marks) (greatest_mark same marks) w.clock w.low (low_after_prune w t) w.entries w.live
            (omega arith) (let low_past : w.low ≤ w.clock = k.schedule.low_past in omega (arith, lowest_live-at_most (min t w.clock) w.live)) (pruned_below w.low (min t w.clock) w.live k.schedule.low_live)
            fewer applies.needed k.schedule;
      }
    where
      fewer : (x : Item) (v : ℕ) → greatest_mark same marks x v ≤ greatest_mark same w.marks x v
      fewer x v = elim (applies.kept_or_dropped x v) [ inl kept ↦ omega arith | inr dropped ↦ omega arith ]

  pub consistent_after_events : IsEquality same → (events : List (Event Item Value Outcome)) (w : World Item Value Outcome) → AllApply same Proper means base w events
      → IsConsistentWorld same Proper means base w → IsConsistentWorld same Proper means base (after_events same base w events)
  consistent_after_events equality [] w apply k = k
  consistent_after_events equality (event ∷ events) w apply k = consistent_after_events equality events (after_event same base w event) apply.1 (consistent_after_event equality w event apply.0 k)

  pub consistent : IsEquality same → (w : World Item Value Outcome) → IsReachable same Proper means base w → IsConsistentWorld same Proper means base w
  consistent equality w r = subst (λ v. IsConsistentWorld same Proper means base v) r.leads_here (consistent_after_events equality r.events first_world r.apply consistent_first)

  -- the facts make a world serial, whatever keeps its marks
  pub serial : (mark : Item → ℕ → ℕ) (w : World Item Value Outcome) → Proper base → IsConsistent same Proper means base mark w.clock w.low w.entries w.live → IsSerial same Proper means base w
  serial mark w proper k =
      record {
        rising = k.journal.rising;
        replays = replays same Proper means w.entries base replayed;
        newest = λ x. sym (ap (λ es. state_after same means base es x) (sym (all_below (suc w.clock) w.entries (all_map (λ e. e.timestamp ≤ w.clock) _ w.entries (λ e h. omega arith) k.schedule.entries_past))) ∙ below (suc w.clock) x);
        past = λ t x. sym (below (suc t) x);
        proper = λ t. proper_below same Proper means (suc t) 0 w.entries base k.journal.rising replayed;
        live = all_map (λ a. Agrees a.reads (state_below same base w.entries a.timestamp)) _ w.live
            (λ a agrees. all_map (λ read. state_below same base w.entries a.timestamp read.0 ≡ read.1) _ a.reads (λ read h. below a.timestamp read.0 ∙ h) agrees) k.schedule.live_agree;
        once = k.schedule.once;
      }
    where
      replayed : ReplaysProperly same Proper means base w.entries
      replayed = journal_replays_properly same Proper means base w.entries proper k.journal

      below : (t : ℕ) (x : Item) → state_after same means base (entries_below t w.entries) x ≡ state_below same base w.entries t x
      below t x = replayed_state same means t 0 w.entries base (λ y. (0, base y)) (λ y. refl) k.journal.rising (replays same Proper means w.entries base replayed) x

  pub reachable_first : IsReachable same Proper means base first_world
  reachable_first = record { events = []; apply = tt; leads_here = refl }

  -- one more event
  pub after_events-push : (events : List (Event Item Value Outcome)) (event : Event Item Value Outcome) (w : World Item Value Outcome)
      → after_events same base w (events ++ event ∷ []) ≡ after_event same base (after_events same base w events) event
  after_events-push [] event w = refl
  after_events-push (e ∷ events) event w = after_events-push events event (after_event same base w e)

  pub all_apply-push : (events : List (Event Item Value Outcome)) (event : Event Item Value Outcome) (w : World Item Value Outcome) → AllApply same Proper means base w events
      → Applies same Proper means base (after_events same base w events) event → AllApply same Proper means base w (events ++ event ∷ [])
  all_apply-push [] event w h last = (last, tt)
  all_apply-push (e ∷ events) event w h last = (h.0, all_apply-push events event (after_event same base w e) h.1 last)

  -- an event that applies leads from a reachable world to a reachable one
  pub reachable_after : (w : World Item Value Outcome) (event : Event Item Value Outcome) → Applies same Proper means base w event
      → IsReachable same Proper means base w → IsReachable same Proper means base (after_event same base w event)
  reachable_after w event applies r =
      record {
        events = r.events ++ event ∷ [];
        apply = all_apply-push r.events event first_world r.apply (subst (λ v. Applies same Proper means base v event) (sym r.leads_here) applies);
        leads_here = after_events-push r.events event first_world ∙ ap (λ v. after_event same base v event) r.leads_here;
      }

pub every_interleaving_is_serial_lem : (Item Value Outcome : Type 0) (Proper : (Item → Value) → Type 0) → EveryInterleavingIsSerial Item Value Outcome Proper
every_interleaving_is_serial_lem Item Value Outcome Proper same equality means base proper w reachable =
    serial same Proper means base (greatest_mark same w.marks) w proper (consistent same Proper means base equality w reachable)

pub every_event_leads_on_lem : (Item Value Outcome : Type 0) (Proper : (Item → Value) → Type 0) → EveryEventLeadsOn Item Value Outcome Proper
every_event_leads_on_lem Item Value Outcome Proper same means base = (reachable_first same Proper means base, λ w event reachable applies. reachable_after same Proper means base w event applies reachable)

pub every_prune_applies_lem : (Item Value Outcome : Type 0) (Proper : (Item → Value) → Type 0) → EveryPruneApplies Item Value Outcome Proper
every_prune_applies_lem Item Value Outcome Proper same means base w t = record { kept_or_dropped = λ x version. inl refl; needed = λ x u above. refl }

-- another list of marks is what a prune at 0 leaves
pub every_listing_of_marks_serves_lem : (Item Value Outcome : Type 0) (Proper : (Item → Value) → Type 0) → EveryListingOfMarksServes Item Value Outcome Proper
every_listing_of_marks_serves_lem Item Value Outcome Proper same means base w reachable marks kept =
    subst (λ low. IsReachable same Proper means base (record w { low = low; marks = marks })) low_stays
    (reachable_after same Proper means base w (Prune 0 marks) (subst (λ low. KeepsNeededMarks same base low w.entries w.marks marks) (sym low_stays) kept) reachable)
  where
    low_stays : low_after_prune w 0 ≡ w.low
    low_stays = omega (arith, lowest_live-at_most (min 0 w.clock) w.live)

pub every_consistent_world_is_serial_lem : (Item Value Outcome : Type 0) (Proper : (Item → Value) → Type 0) → EveryConsistentWorldIsSerial Item Value Outcome Proper
every_consistent_world_is_serial_lem Item Value Outcome Proper same means base proper mark w k = serial same Proper means base mark w proper k

pub every_reachable_world_is_consistent_lem : (Item Value Outcome : Type 0) (Proper : (Item → Value) → Type 0) → EveryReachableWorldIsConsistent Item Value Outcome Proper
every_reachable_world_is_consistent_lem Item Value Outcome Proper same equality means base w reachable = consistent same Proper means base equality w reachable

pub no_mark_is_above_the_clock_lem : (Item Value Outcome : Type 0) (Proper : (Item → Value) → Type 0) → NoMarkIsAboveTheClock Item Value Outcome Proper
no_mark_is_above_the_clock_lem Item Value Outcome Proper same equality means base w reachable = (consistent same Proper means base equality w reachable).schedule.marks_past
