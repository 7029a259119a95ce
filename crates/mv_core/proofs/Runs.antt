-- Each step keeps that events lead to the world, and that each worker's attempt is live and its own.
use Rattle.std.proofs.Common.{◌≡◌, ℕ, zero, suc, inl, ◌+◌, ◌<◌, ◌≤◌, ◌≢◌, Bool, true, false, ◌==◌, nat_le, if◌then◌else◌, List, [], ◌∷◌, get_or, set, Option, None, Some, Ok, Err, refl, sym, ap, ◌∙◌, subst, arith}
use Rattle.std.specs.Prelude.{◌&&◌, is_some, IsSome}
use Rattle.mv_history.specs.History as history
use Rattle.mv_history.specs.History.{commit_count}
use Rattle.std.specs.List.{AllByRecursion}
use Rattle.std.proofs.lemmas.Option.{same_Some}
use Rattle.avm_items.specs.declared.call_data.CallData.{CallData}
use Rattle.avm_items.specs.declared.item.Item.{Item}
use Rattle.avm_items.specs.declared.item_value.ItemValue.{ItemValue}
use Rattle.avm_items.specs.Items.{ItemMap, value_in, with_item}
use Rattle.avm_items.specs.LedgerItems.{at}
use Rattle.avm_items.specs.Locality.{then}
use Rattle.avm_items.specs.Asks.{Answer, answer_from}
use Rattle.avm_items.proofs.Questions.{question_with_more}
use Rattle.avm_call.specs.AskedFor.{AreAskedFor}
use Rattle.avm_call.specs.Calls.{CallResult, call_result}
use Rattle.avm_call.proofs.AskedFor.{asked_with_answer, none_asked_for}
use Rattle.avm_run.specs.Results.{CallRecord, with_changes}
use Rattle.avm_laws.specs.LedgerLooks.{IsOfLedger}
use Rattle.avm_laws.proofs.ReadCalls.{asks_for_what_is_used}
use Rattle.mv_history.specs.World.{live_count, Begin, Read, Commit, Abandon, Prune, after_abandon, after_begin, after_commit, after_read, attempt_at, fresh_attempt, greatest_mark}
use Rattle.mv_history.proofs.Attempts.{attempt_at-last, attempt_at-other_read, attempt_at-push, attempt_at-with_read, attempt_at-without, found_attempt}
use Rattle.mv_history.proofs.Lists.{all_map}
use Rattle.mv_history.proofs.Worlds.{consistent}
use Rattle.mv_parts.specs.CallHistory.{CallAttempt, CallWorld, meaning_of, same_item}
use Rattle.mv_parts.specs.CallNumbers.{call_of}
use Rattle.mv_parts.specs.SerialCalls.{CallsLeadTo, EveryInterleavingOfCallsIsSerial}
use Rattle.mv_parts.proofs.Histories.{finished_calls_are_entries}
use Rattle.mv_parts.proofs.SerialCalls.{calls_lead_on, items_have_an_equality}
use Rattle.mv_core.specs.declared.running.Event.{Event}
use Rattle.mv_core.specs.declared.running.Event.TheVariants as event
use Rattle.mv_core.specs.Running.{RunInput, Running, answer_of, by_worker, commit_by, entry_by, first_running, may_begin, index_among, read_by, running_after, running_from, version_before, with_worker, worker_at, writes_in_time}
use Rattle.mv_core.specs.RunningLaws.{AreAtWork, EveryReadIsUsed, EveryRunIsSerial, EveryRunLeadsOn, EveryWorkerIsLive, IsAtWork}
use Rattle.mv_core.proofs.Workers.{itself, other, after_set, with_item-new}

both_true : (a b : Bool) → (a && b) ≡ true → (a ≡ true) × (b ≡ true)
both_true true true e = (refl, refl)
both_true true false e = absurd cc
both_true false b e = absurd cc

le_true : (a b : ℕ) → nat_le a b ≡ true → a ≤ b
le_true a b e = grind (arith, e)

is_zero : (n : ℕ) → (n == 0) ≡ true → n ≡ 0
is_zero n e = grind (arith, e)

-- idle workers alone
abbrev idle_workers : ℕ → List (Option CallAttempt)
idle_workers zero = []
idle_workers (suc n) = None ∷ idle_workers n

none_in : (n w : ℕ) → get_or (idle_workers n) w None ≡ None
none_in zero w = refl
none_in (suc n) zero = refl
none_in (suc n) (suc w) = none_in n w

module _ (input : RunInput) where
  -- events lead to the world, and the workers are at work
  record IsKept (r : Running) : Type 0 where
    leads : CallsLeadTo input.base input.header input.calls r.world
    at_work : AreAtWork input r

  -- one worker has another attempt, or none, and the attempts of the others are live as before
  kept_with : (r : Running) (world : CallWorld) (i : ℕ) (o : Option CallAttempt) → CallsLeadTo input.base input.header input.calls world
      → ((a : CallAttempt) → o ≡ Some a → IsAtWork input (with_worker r world i o) a)
      → ((w : ℕ) (b : CallAttempt) → w ≢ i → worker_at r w ≡ Some b → attempt_at b.timestamp r.world.live ≡ Some b → attempt_at b.timestamp world.live ≡ Some b)
      → ((a : CallAttempt) (w : ℕ) (b : CallAttempt) → o ≡ Some a → w ≢ i → worker_at r w ≡ Some b → a.timestamp ≢ b.timestamp)
      → IsKept r → IsKept (with_worker r world i o)
  kept_with r world i o leads new others apart k = record { leads = leads; at_work = record { each = each; own = own } }
    where
      each : (w : ℕ) (a : CallAttempt) → get_or (set r.workers i o) w None ≡ Some a → IsAtWork input (with_worker r world i o) a
      each w a e =
          elim (after_set r.workers i o w a e) [
            | itself same is ↦ new a is
            | other differs was ↦
                let before = k.at_work.each w a was in
                record { live = others w a differs was before.live; call = before.call; is_call = before.is_call; asked = before.asked }
          ]

      own : (v w : ℕ) (a b : CallAttempt) → get_or (set r.workers i o) v None ≡ Some a → get_or (set r.workers i o) w None ≡ Some b → a.timestamp ≡ b.timestamp → v ≡ w
      own v w a b e f same =
          elim (after_set r.workers i o v a e) [
            | itself v_is a_is ↦ elim (after_set r.workers i o w b f) [
              | itself w_is b_is ↦ v_is ∙ sym w_is
              | other w_differs b_was ↦ absurd (apart a w b a_is w_differs b_was same)
            ]
            | other v_differs a_was ↦ elim (after_set r.workers i o w b f) [
              | itself w_is b_is ↦ absurd (apart b v a b_is v_differs a_was (sym same))
              | other w_differs b_was ↦ k.at_work.own v w a b a_was b_was same
            ]
          ]

  -- ---- each step

  kept_begin : (r : Running) (w number : ℕ) → IsKept r → is_some (call_of input.calls number) ≡ true → commit_count number r.world.entries ≡ 0 → live_count number r.world.live ≡ 0
      → IsKept (with_worker r (after_begin r.world number) w (Some (fresh_attempt number (r.world.clock + 1))))
  kept_begin r w number k a_call uncommitted idle =
      kept_with r (after_begin r.world number) w (Some (fresh_attempt number (r.world.clock + 1)))
      ((calls_lead_on input.base input.header input.calls).1 r.world (Begin number) k.leads a_call (uncommitted, idle))
      (λ a is. subst (λ b. IsAtWork input (with_worker r (after_begin r.world number) w (Some (fresh_attempt number (r.world.clock + 1)))) b) (same_Some _ _ is) (fresh (call_of input.calls number) refl a_call))
      (λ v b differs was live. attempt_at-push b.timestamp b (fresh_attempt number (r.world.clock + 1)) r.world.live live)
      (λ a v b is differs was. subst (λ (c : CallAttempt). c.timestamp ≢ b.timestamp) (same_Some _ _ is) (above b (k.at_work.each v b was).live))
      k
    where
      live_past : AllByRecursion (λ (a : CallAttempt). (0 < a.timestamp) × (a.timestamp ≤ r.world.clock)) r.world.live
      live_past = (consistent same_item IsOfLedger (meaning_of input.header input.calls) (at input.base) items_have_an_equality r.world (record { events = k.leads.events; apply = k.leads.apply; leads_here = k.leads.lead_here })).schedule.live_past

      above : (b : CallAttempt) → attempt_at b.timestamp r.world.live ≡ Some b → r.world.clock + 1 ≢ b.timestamp
      above b live same = let past : b.timestamp ≤ r.world.clock = (found_attempt (λ (a : CallAttempt). (0 < a.timestamp) × (a.timestamp ≤ r.world.clock)) b.timestamp b r.world.live live live_past).1 in omega (arith, same)

      fresh : (c : Option CallData) → call_of input.calls number ≡ c → is_some c ≡ true → IsAtWork input (with_worker r (after_begin r.world number) w (Some (fresh_attempt number (r.world.clock + 1)))) (fresh_attempt number (r.world.clock + 1))
      fresh None is some = absurd cc
      fresh (Some call) is some =
          record {
            live = attempt_at-last (r.world.clock + 1) (fresh_attempt number (r.world.clock + 1)) r.world.live refl
                (all_map (λ (a : CallAttempt). (0 < a.timestamp) × (a.timestamp ≤ r.world.clock)) _ r.world.live (λ a past same. omega (arith, past.1, same)) live_past);
            call = call;
            is_call = is;
            asked = none_asked_for call input.header;
          }

  kept_read : (r : Running) (w : ℕ) (a : CallAttempt) (call : CallData) (x : Item) → IsKept r → worker_at r w ≡ Some a → call_of input.calls a.number ≡ Some call
      → answer_from (value_in a.reads) (call_result call input.header) ≡ Err x → IsKept (read_by input r w a (Some (Err x)))
  kept_read r w a call x k here is_call asks =
      kept_with r world w (Some after)
      ((calls_lead_on input.base input.header input.calls).1 r.world (Read a.timestamp index x) k.leads tt (a, (k.at_work.each w a here).live, unknown))
      (λ b is. subst (λ c. IsAtWork input (with_worker r world w (Some after)) c) (same_Some _ _ is) at_work)
      (λ v b differs was live. attempt_at-other_read b.timestamp a.timestamp index read r.world.live (λ same. differs (k.at_work.own v w b a was here same)) ∙ live)
      (λ b v c is differs was. subst (λ (d : CallAttempt). d.timestamp ≢ c.timestamp) (same_Some _ _ is) (λ same. differs (k.at_work.own v w c a was here (sym same))))
      k
    where
      index : ℕ
      index = index_among a.reads x

      read : Item × ItemValue
      read = (x, (version_before input r a.timestamp x).1)

      world : CallWorld
      world = after_read same_item (at input.base) r.world a.timestamp index x

      after : CallAttempt
      after = record a { reads = with_item a.reads x (version_before input r a.timestamp x).1 }

      unknown : value_in a.reads x ≡ None
      unknown = (question_with_more (value_in a.reads) (value_in a.reads) (record { same = λ y u h. h }) (call_result call input.header) x asks).0

      asked : AreAskedFor a.reads call input.header
      asked = let before = k.at_work.each w a here in subst (λ c. AreAskedFor a.reads c input.header) (same_Some _ _ (sym before.is_call ∙ is_call)) before.asked

      at_work : IsAtWork input (with_worker r world w (Some after)) after
      at_work = record {
        live = attempt_at-with_read a.timestamp index read a r.world.live (k.at_work.each w a here).live
            ∙ ap (λ reads. Some (record a { reads = reads })) (sym (with_item-new a.reads x (version_before input r a.timestamp x).1 unknown));
        call = call;
        is_call = is_call;
        asked = asked_with_answer a.reads call input.header x (version_before input r a.timestamp x).1 asked asks;
      }

  -- the worker has ended its attempt
  kept_ended : (r : Running) (w : ℕ) (a : CallAttempt) (world : CallWorld) → IsKept r → worker_at r w ≡ Some a → CallsLeadTo input.base input.header input.calls world
      → ((t : ℕ) → t ≢ a.timestamp → attempt_at t world.live ≡ attempt_at t r.world.live) → IsKept (with_worker r world w None)
  kept_ended r w a world k here leads others =
      kept_with r world w None leads (λ b is. absurd cc)
      (λ v b differs was live. others b.timestamp (λ same. differs (k.at_work.own v w b a was here same)) ∙ live)
      (λ b v c is differs was same. absurd cc)
      k

  -- writes that pass the test follow no version that was read above the timestamp
  pub in_time : (r : Running) (t : ℕ) (writes : ItemMap) → writes_in_time input r t writes ≡ true
      → AllByRecursion (λ write. greatest_mark same_item r.world.marks write.0 (version_before input r t write.0).0 ≤ t) writes
  in_time r t [] e = tt
  in_time r t (write ∷ writes) e =
      let parts = both_true (nat_le (greatest_mark same_item r.world.marks write.0 (version_before input r t write.0).0) t) (writes_in_time input r t writes) e in
      (le_true (greatest_mark same_item r.world.marks write.0 (version_before input r t write.0).0) t parts.0, in_time r t writes parts.1)

  kept_commit : (r : Running) (w : ℕ) (a : CallAttempt) (call : CallData) (result : CallResult) → IsKept r → worker_at r w ≡ Some a → call_of input.calls a.number ≡ Some call
      → answer_from (value_in a.reads) (call_result call input.header) ≡ Ok result → writes_in_time input r a.timestamp (entry_by a result).writes ≡ true
      → IsKept (with_worker r (after_commit r.world (entry_by a result)) w None)
  kept_commit r w a call result k here is_call ends timely =
      kept_ended r w a (after_commit r.world (entry_by a result)) k here
      ((calls_lead_on input.base input.header input.calls).1 r.world (Commit (entry_by a result)) k.leads tt
      (a, (k.at_work.each w a here).live, record { timestamp = refl; number = refl; reads = refl; finished = finished }, in_time r a.timestamp (entry_by a result).writes timely))
      (λ t differs. attempt_at-without t a.timestamp r.world.live differs)
    where
      made : CallRecord
      made = record { call = call; header = input.header; reads = a.reads; writes = (entry_by a result).writes; outcome = result.0 }

      asked : AreAskedFor a.reads call input.header
      asked = let before = k.at_work.each w a here in subst (λ c. AreAskedFor a.reads c input.header) (same_Some _ _ (sym before.is_call ∙ is_call)) before.asked

      finished : history.IsFinished same_item IsOfLedger (meaning_of input.header input.calls) (entry_by a result)
      finished = finished_calls_are_entries input.calls made a.timestamp a.number
          (record { result = ap ((then) (λ (s : CallResult). Ok (with_changes a.reads s))) ends; asked = asked }) is_call

  -- ---- each event

  -- the call of a worker's attempt, if it has one
  kept_by : (step : CallAttempt → Option (Answer CallResult) → Running) (r : Running) (w : ℕ) → IsKept r
      → ((a : CallAttempt) → IsKept (step a None))
      → ((a : CallAttempt) (call : CallData) → worker_at r w ≡ Some a → call_of input.calls a.number ≡ Some call → IsKept (step a (Some (answer_from (value_in a.reads) (call_result call input.header)))))
      → (o : Option CallAttempt) → worker_at r w ≡ o → IsKept (by_worker r (λ a. step a (answer_of input.header a.reads (call_of input.calls a.number))) o)
  kept_by step r w k none some None is = k
  kept_by step r w k none some (Some a) is = by (call_of input.calls a.number) refl
    where
      by : (c : Option CallData) → call_of input.calls a.number ≡ c → IsKept (step a (answer_of input.header a.reads c))
      by None is_call = none a
      by (Some call) is_call = some a call is is_call

  kept_after : (r : Running) (e : Event) → IsKept r → IsKept (running_after input r e)
  kept_after r (event.Begin w number) k = by (may_begin input r w number) refl
    where
      by : (c : Bool) → may_begin input r w number ≡ c → IsKept (if c then with_worker r (after_begin r.world number) w (Some (fresh_attempt number (r.world.clock + 1))) else r)
      by true e =
          let fifth = both_true _ _ e in
          let fourth = both_true _ _ fifth.0 in
          let third = both_true _ _ fourth.0 in
          let second = both_true _ _ third.0 in
          kept_begin r w number k second.1 (is_zero (commit_count number r.world.entries) third.1) (is_zero (live_count number r.world.live) fourth.1)
      by false e = k
  kept_after r (event.Read w) k = kept_by (λ a answer. read_by input r w a answer) r w k (λ a. k) (λ a call here is_call. by a call here is_call (answer_from (value_in a.reads) (call_result call input.header)) refl) (worker_at r w) refl
    where
      by : (a : CallAttempt) (call : CallData) → worker_at r w ≡ Some a → call_of input.calls a.number ≡ Some call → (answer : Answer CallResult) → answer_from (value_in a.reads) (call_result call input.header) ≡ answer → IsKept (read_by input r w a (Some answer))
      by a call here is_call (Ok result) e = k
      by a call here is_call (Err x) e = kept_read r w a call x k here is_call e
  kept_after r (event.Commit w) k = kept_by (λ a answer. commit_by input r w a answer) r w k (λ a. k) (λ a call here is_call. by a call here is_call (answer_from (value_in a.reads) (call_result call input.header)) refl) (worker_at r w) refl
    where
      by_time : (a : CallAttempt) (call : CallData) (result : CallResult) → worker_at r w ≡ Some a → call_of input.calls a.number ≡ Some call → answer_from (value_in a.reads) (call_result call input.header) ≡ Ok result
          → (c : Bool) → writes_in_time input r a.timestamp (entry_by a result).writes ≡ c → IsKept (if c then with_worker r (after_commit r.world (entry_by a result)) w None else r)
      by_time a call result here is_call e true timely = kept_commit r w a call result k here is_call e timely
      by_time a call result here is_call e false late = k

      by : (a : CallAttempt) (call : CallData) → worker_at r w ≡ Some a → call_of input.calls a.number ≡ Some call → (answer : Answer CallResult) → answer_from (value_in a.reads) (call_result call input.header) ≡ answer → IsKept (commit_by input r w a (Some answer))
      by a call here is_call (Ok result) e = by_time a call result here is_call e (writes_in_time input r a.timestamp (entry_by a result).writes) refl
      by a call here is_call (Err x) e = k
  kept_after r (event.Abandon w) k = by (worker_at r w) refl
    where
      by : (o : Option CallAttempt) → worker_at r w ≡ o → IsKept (by_worker r (λ a. with_worker r (after_abandon r.world a.timestamp) w None) o)
      by None is = k
      by (Some a) is =
          kept_ended r w a (after_abandon r.world a.timestamp) k is
          ((calls_lead_on input.base input.header input.calls).1 r.world (Abandon a.timestamp) k.leads tt (subst (λ (o : Option CallAttempt). IsSome o) (sym (k.at_work.each w a is).live) refl))
          (λ t differs. attempt_at-without t a.timestamp r.world.live differs)
  kept_after r (event.Prune t) k =
      record {
        leads = (calls_lead_on input.base input.header input.calls).1 r.world (Prune t r.world.marks) k.leads tt (record { kept_or_dropped = λ x version. inl refl; needed = λ x u above. refl });
        at_work = record {
          each = λ w a here. let before = k.at_work.each w a here in record { live = before.live; call = before.call; is_call = before.is_call; asked = before.asked };
          own = λ v w a b here there same. k.at_work.own v w a b here there same;
        };
      }

  kept_from : (r : Running) (events : List Event) → IsKept r → IsKept (running_from input r events)
  kept_from r [] k = k
  kept_from r (e ∷ es) k = kept_from (running_after input r e) es (kept_after r e k)

  -- all are idle at first
  idle : (w : ℕ) → worker_at first_running w ≡ None
  idle w = none_in 8 w

  kept_first : IsKept first_running
  kept_first = record {
    leads = (calls_lead_on input.base input.header input.calls).0;
    at_work = record {
      each = λ w a here. let no : None ≡ Some a = sym (idle w) ∙ here in absurd cc;
      own = λ v w a b here there same. let no : None ≡ Some a = sym (idle v) ∙ here in absurd cc;
    };
  }

  kept : (events : List Event) → IsKept (running_from input first_running events)
  kept events = kept_from first_running events kept_first

pub every_run_leads_on : EveryRunLeadsOn
every_run_leads_on input events = (kept input events).leads

pub every_worker_is_live : EveryWorkerIsLive
every_worker_is_live input events = (kept input events).at_work

pub every_run_is_serial_lem : EveryInterleavingOfCallsIsSerial → EveryRunIsSerial
every_run_is_serial_lem theorem input events orderly = theorem input.base input.header input.calls orderly (running_from input first_running events).world (every_run_leads_on input events)

pub every_read_is_used_lem : EveryReadIsUsed
every_read_is_used_lem input a call x is_call asks l orderly agrees = asks_for_what_is_used l a.reads call input.header x orderly agrees asks
