-- States of a run that differ in marks that don't count go on to such states.
use Rattle.std.proofs.Common.{◌≡◌, ℕ, suc, ◌+◌, ◌≤◌, Bool, true, false, nat_le, if◌then◌else◌, List, [], ◌∷◌, Option, None, Some, Ok, Err, refl, ap, ◌∙◌, subst, arith, le_trans}
use Rattle.std.specs.Prelude.{◌&&◌}
use Rattle.std.specs.List.{AllByRecursion}
use Rattle.avm_items.specs.Items.{ItemMap}
use Rattle.avm_items.specs.LedgerItems.{at}
use Rattle.avm_items.specs.Asks.{Answer}
use Rattle.avm_call.specs.Calls.{CallResult}
use Rattle.avm_laws.specs.LedgerLooks.{IsOfLedger}
use Rattle.mv_history.specs.History.{version_below}
use Rattle.mv_history.specs.SameWorlds.{HaveSameMarks, IsSameWorld}
use Rattle.mv_history.specs.Schedule.{IsConsistentWorld}
use Rattle.mv_history.specs.World.{Abandon, Begin, Commit, Mark, Prune, Read, after_abandon, after_begin, after_commit, fresh_attempt, greatest_mark, low_after_prune}
use Rattle.mv_history.proofs.Attempts.{found_attempt}
use Rattle.mv_history.proofs.SameWorlds.{after_same_event, version_below-monotone}
use Rattle.mv_history.proofs.Worlds.{consistent}
use Rattle.mv_parts.specs.CallHistory.{CallAttempt, meaning_of, same_item}
use Rattle.mv_parts.specs.CallNumbers.{call_of}
use Rattle.mv_parts.specs.SerialCalls.{CallsLeadTo}
use Rattle.mv_parts.proofs.SerialCalls.{items_have_an_equality}
use Rattle.avm_items.specs.declared.item.Item.{Item}
use Rattle.mv_core.specs.declared.running.Event.{Event}
use Rattle.mv_core.specs.declared.running.Event.TheVariants as event
use Rattle.mv_core.specs.Running.{RunInput, Running, answer_of, by_worker, commit_by, entry_by, may_begin, index_among, read_by, running_after, with_worker, worker_at, writes_in_time}
use Rattle.mv_core.specs.RunningLaws.{AreAtWork, EverySameRunGoesOn, IsSameRunning, TestsAreInTime}
use Rattle.mv_core.proofs.Runs.{in_time}

le_is_true : (a b : ℕ) → a ≤ b → nat_le a b ≡ true
le_is_true a b h = grind (arith, h)

module _ (input : RunInput) (r : Running) (marks : List (Mark Item)) (leads : CallsLeadTo input.base input.header input.calls r.world) (at_work : AreAtWork input r) (same : HaveSameMarks same_item (at input.base) r.world.low r.world.entries r.world.marks marks) where
  same_world : IsSameWorld same_item (at input.base) r.world (record r.world { marks = marks })
  same_world = record { clock = refl; low = refl; entries = refl; live = refl; marks = same }

  facts : IsConsistentWorld same_item IsOfLedger (meaning_of input.header input.calls) (at input.base) r.world
  facts = consistent same_item IsOfLedger (meaning_of input.header input.calls) (at input.base) items_have_an_equality r.world (record { events = leads.events; apply = leads.apply; leads_here = leads.lead_here })

  same_test : (t : ℕ) (writes : ItemMap) → r.world.low ≤ t → writes_in_time input r t writes ≡ writes_in_time input (record r { world = record r.world { marks = marks } }) t writes
  same_test t [] above = refl
  same_test t (write ∷ writes) above =
      ap (λ n. nat_le n t && writes_in_time input r t writes)
      (same write.0 (version_below same_item (at input.base) r.world.entries (suc t) write.0).0
      (version_below-monotone same_item (at input.base) (suc r.world.low) (suc t) r.world.entries write.0 (omega arith) facts.journal.rising))
      ∙ ap (λ b. nat_le (greatest_mark same_item marks write.0 (version_below same_item (at input.base) r.world.entries (suc t) write.0).0) t && b) (same_test t writes above)

  above_low : (w : ℕ) (a : CallAttempt) → worker_at r w ≡ Some a → r.world.low ≤ a.timestamp
  above_low w a here = found_attempt (λ (b : CallAttempt). r.world.low ≤ b.timestamp) a.timestamp a r.world.live (at_work.each w a here).live facts.schedule.low_live

  goes_on : (e : Event) → IsSameRunning input (running_after input r e) (running_after input (record r { world = record r.world { marks = marks } }) e)
  goes_on (event.Begin w number) = by (may_begin input r w number)
    where
      by : (c : Bool) → IsSameRunning input (if c then with_worker r (after_begin r.world number) w (Some (fresh_attempt number (r.world.clock + 1))) else r)
          (if c then with_worker r (after_begin (record r.world { marks = marks }) number) w (Some (fresh_attempt number (r.world.clock + 1))) else record r { world = record r.world { marks = marks } })
      by true = record { world = after_same_event same_item (at input.base) r.world (record r.world { marks = marks }) facts.journal.rising same_world (Begin number) (Begin number) refl; workers = refl }
      by false = record { world = same_world; workers = refl }
  goes_on (event.Read w) = by (worker_at r w)
    where
      by_answer : (a : CallAttempt) (answer : Option (Answer CallResult)) → IsSameRunning input (read_by input r w a answer) (read_by input (record r { world = record r.world { marks = marks } }) w a answer)
      by_answer a None = record { world = same_world; workers = refl }
      by_answer a (Some (Ok result)) = record { world = same_world; workers = refl }
      by_answer a (Some (Err x)) =
          record { world = after_same_event same_item (at input.base) r.world (record r.world { marks = marks }) facts.journal.rising same_world (Read a.timestamp (index_among a.reads x) x) (Read a.timestamp (index_among a.reads x) x) refl; workers = refl }

      by : (o : Option CallAttempt) → IsSameRunning input (by_worker r (λ a. read_by input r w a (answer_of input.header a.reads (call_of input.calls a.number))) o)
          (by_worker (record r { world = record r.world { marks = marks } }) (λ a. read_by input (record r { world = record r.world { marks = marks } }) w a (answer_of input.header a.reads (call_of input.calls a.number))) o)
      by None = record { world = same_world; workers = refl }
      by (Some a) = by_answer a (answer_of input.header a.reads (call_of input.calls a.number))
  goes_on (event.Commit w) = by (worker_at r w) refl
    where
      by_test : (a : CallAttempt) (result : CallResult) (c : Bool)
          → IsSameRunning input (if c then with_worker r (after_commit r.world (entry_by a result)) w None else r)
          (if c then with_worker r (after_commit (record r.world { marks = marks }) (entry_by a result)) w None else record r { world = record r.world { marks = marks } })
      by_test a result true =
          record { world = after_same_event same_item (at input.base) r.world (record r.world { marks = marks }) facts.journal.rising same_world (Commit (entry_by a result)) (Commit (entry_by a result)) refl; workers = refl }
      by_test a result false = record { world = same_world; workers = refl }

      by_answer : (a : CallAttempt) → worker_at r w ≡ Some a → (answer : Option (Answer CallResult)) → IsSameRunning input (commit_by input r w a answer) (commit_by input (record r { world = record r.world { marks = marks } }) w a answer)
      by_answer a here None = record { world = same_world; workers = refl }
      by_answer a here (Some (Err x)) = record { world = same_world; workers = refl }
      by_answer a here (Some (Ok result)) =
          subst (λ c. IsSameRunning input (if writes_in_time input r a.timestamp (entry_by a result).writes then with_worker r (after_commit r.world (entry_by a result)) w None else r)
          (if c then with_worker r (after_commit (record r.world { marks = marks }) (entry_by a result)) w None else record r { world = record r.world { marks = marks } }))
          (same_test a.timestamp (entry_by a result).writes (above_low w a here)) (by_test a result (writes_in_time input r a.timestamp (entry_by a result).writes))

      by : (o : Option CallAttempt) → worker_at r w ≡ o → IsSameRunning input (by_worker r (λ a. commit_by input r w a (answer_of input.header a.reads (call_of input.calls a.number))) o)
          (by_worker (record r { world = record r.world { marks = marks } }) (λ a. commit_by input (record r { world = record r.world { marks = marks } }) w a (answer_of input.header a.reads (call_of input.calls a.number))) o)
      by None here = record { world = same_world; workers = refl }
      by (Some a) here = by_answer a here (answer_of input.header a.reads (call_of input.calls a.number))
  goes_on (event.Abandon w) = by (worker_at r w)
    where
      by : (o : Option CallAttempt) → IsSameRunning input (by_worker r (λ a. with_worker r (after_abandon r.world a.timestamp) w None) o)
          (by_worker (record r { world = record r.world { marks = marks } }) (λ a. with_worker r (after_abandon (record r.world { marks = marks }) a.timestamp) w None) o)
      by None = record { world = same_world; workers = refl }
      by (Some a) = record { world = after_same_event same_item (at input.base) r.world (record r.world { marks = marks }) facts.journal.rising same_world (Abandon a.timestamp) (Abandon a.timestamp) refl; workers = refl }
  goes_on (event.Prune t) =
      record {
        world = after_same_event same_item (at input.base) r.world (record r.world { marks = marks }) facts.journal.rising same_world (Prune t r.world.marks) (Prune t marks)
            (refl, λ x version above. same x version (le_trans (version_below-monotone same_item (at input.base) (suc r.world.low) (suc (low_after_prune r.world t)) r.world.entries x (omega arith) facts.journal.rising) above));
        workers = refl;
      }

-- the other state is this one with other marks
with_marks : (input : RunInput) (r s : Running) → IsSameRunning input r s → record r { world = record r.world { marks = s.world.marks } } ≡ s
with_marks input r s h = λ i. record { world = record { clock = h.world.clock i; low = h.world.low i; entries = h.world.entries i; marks = s.world.marks; live = h.world.live i }; workers = h.workers i }

pub every_same_run_goes_on : EverySameRunGoesOn
every_same_run_goes_on input r s leads at_work h e =
    subst (λ v. IsSameRunning input (running_after input r e) (running_after input v e)) (with_marks input r s h) (goes_on input r s.world.marks leads at_work h.world.marks e)

-- ---- the test of a commit

in_time_tested : (input : RunInput) (r : Running) (t : ℕ) (writes : ItemMap)
    → AllByRecursion (λ write. greatest_mark same_item r.world.marks write.0 (version_below same_item (at input.base) r.world.entries (suc t) write.0).0 ≤ t) writes → writes_in_time input r t writes ≡ true
in_time_tested input r t [] h = refl
in_time_tested input r t (write ∷ writes) h =
    ap (λ b. b && writes_in_time input r t writes) (le_is_true (greatest_mark same_item r.world.marks write.0 (version_below same_item (at input.base) r.world.entries (suc t) write.0).0) t h.0)
    ∙ in_time_tested input r t writes h.1

pub tests_are_in_time : TestsAreInTime
tests_are_in_time input r e = (in_time input r e.timestamp e.writes, in_time_tested input r e.timestamp e.writes)
