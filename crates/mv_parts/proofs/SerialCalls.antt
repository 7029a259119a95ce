-- The order theorem for calls on a ledger, from the one over look-ups.
use Rattle.std.proofs.Common.{◌≡◌, ℕ, suc, ◌+◌, Bool, true, false, if◌then◌else◌, nat_lt, Option, None, Some, List, [], ◌∷◌, ◌++◌, refl, sym, ap, ◌∙◌, subst, arith}
use Rattle.std.specs.Prelude.{IsSome}
use Rattle.std.specs.List.{AllByRecursion}
use Rattle.std.specs.Ordering.{is_eq}
use Rattle.avm_ledger.specs.Ledgers.{IsOrderly, Ledger}
use Rattle.avm_ledger.specs.declared.header.Header.{Header}
use Rattle.std.specs.Cmp.{tied_itself}
use Rattle.avm_items.specs.declared.call_data.CallData.{CallData}
use Rattle.avm_items.specs.declared.item.Item.{Item}
use Rattle.avm_items.specs.declared.item_value.ItemValue.{ItemValue}
use Rattle.avm_items.specs.LedgerItems.{at}
use Rattle.avm_call.specs.declared.outcome.Outcome.{Outcome}
use Rattle.avm_laws.specs.LedgerLooks.{IsLookOf, IsOfLedger}
use Rattle.avm_items.proofs.Puts.{item_total}
use Rattle.avm_laws.proofs.Given.{item_same}
use Rattle.avm_laws.proofs.LedgerLooks.{ledgers_are_looks}
use Rattle.mv_history.specs.History.{IsRising, Replays, entries_below, lookup_after, state_below}
use Rattle.mv_history.specs.World.{Abandon, AllApply, Applies, Begin, Commit, Prune, Read, after_event, after_events, first_world, fresh_attempt}
use Rattle.mv_history.specs.Facts.{EveryConsistentWorldIsSerial}
use Rattle.mv_history.specs.Serial.{EveryInterleavingIsSerial, IsSerial}
use Rattle.mv_history.proofs.Attempts.{all_with_read, all_without, found_attempt}
use Rattle.mv_history.proofs.Lists.{Compared, less, not_less, compared, all_map, all_push}
use Rattle.mv_history.proofs.Replay.{none_left}
use Rattle.mv_history.proofs.Versions.{all_with}
use Rattle.mv_history.proofs.Worlds.{after_events-push, all_apply-push}
use Rattle.mv_parts.specs.CallHistory.{CallAttempt, CallEntry, CallEvent, CallWorld, calls_made, meaning_of, same_item, with_call}
use Rattle.mv_parts.specs.CallNumbers.{call_of}
use Rattle.mv_parts.specs.CallLaws.{AreCallsOf, IsReplayOf, ItemsHaveAnEquality}
use Rattle.mv_parts.specs.SerialCalls.{AreOfCalls, AreSerialCalls, BeginsACall, EveryConsistentWorldOfCallsIsSerial, EveryEventOfCallsLeadsOn, EveryInterleavingOfCallsIsSerial, ledger_of}
use Rattle.mv_parts.proofs.Histories.{histories_are_replays, reads_agree}

pub items_have_an_equality : ItemsHaveAnEquality
items_have_an_equality = record { itself = λ x. ap is_eq (tied_itself item_total x); exact = λ x y e. item_same x y e }

-- ---- what begins is a call, so what is live or committed is one

module _ (calls : List CallData) where
  abbrev IsOfCall : CallEntry → Type 0
  IsOfCall e = IsSome (call_of calls e.number)

  abbrev IsForCall : CallAttempt → Type 0
  IsForCall a = IsSome (call_of calls a.number)

  record AreCalls (w : CallWorld) : Type 0 where
    entries : AllByRecursion IsOfCall w.entries
    live : AllByRecursion IsForCall w.live

  after_one : (base : Ledger) (header : Header) (w : CallWorld) (event : CallEvent) → BeginsACall calls event → Applies same_item IsOfLedger (meaning_of header calls) (at base) w event → AreCalls w → AreCalls (after_event same_item (at base) w event)
  after_one base header w (Begin number) begins applies k = record { entries = k.entries; live = all_push IsForCall w.live (fresh_attempt number (w.clock + 1)) k.live begins }
  after_one base header w (Read t index x) begins applies k = record { entries = k.entries; live = all_with_read IsForCall t index _ w.live (λ a e h. h) k.live }
  after_one base header w (Commit e) begins applies k =
      record {
        entries = all_with same_item IsOfCall e w.entries (subst (λ n. IsSome (call_of calls n)) (sym applies.2.number) (found_attempt IsForCall e.timestamp applies.0 w.live applies.1 k.live)) k.entries;
        live = all_without IsForCall e.timestamp w.live k.live;
      }
  after_one base header w (Abandon t) begins applies k = record { entries = k.entries; live = all_without IsForCall t w.live k.live }
  after_one base header w (Prune t marks) begins applies k = record { entries = k.entries; live = k.live }

  after_all : (base : Ledger) (header : Header) (events : List CallEvent) (w : CallWorld) → AllByRecursion (BeginsACall calls) events → AllApply same_item IsOfLedger (meaning_of header calls) (at base) w events → AreCalls w → AreCalls (after_events same_item (at base) w events)
  after_all base header [] w begins apply k = k
  after_all base header (event ∷ events) w begins apply k = after_all base header events (after_event same_item (at base) w event) begins.1 apply.1 (after_one base header w event begins.0 apply.0 k)

  -- the calls made are those of the entries
  are_calls_of : (es : List CallEntry) → AllByRecursion IsOfCall es → AreCallsOf calls es (calls_made calls es)
  are_calls_of [] h = tt
  are_calls_of (e ∷ es) h = by (call_of calls e.number) refl h.0 (are_calls_of es h.1)
    where
      by : (c : Option CallData) → call_of calls e.number ≡ c → IsSome c → AreCallsOf calls es (calls_made calls es) → AreCallsOf calls (e ∷ es) (with_call c (calls_made calls es))
      by None is some rest = absurd cc
      by (Some c) is some rest = (is, rest)

  all_of_below : (t : ℕ) (es : List CallEntry) → AllByRecursion IsOfCall es → AllByRecursion IsOfCall (entries_below t es)
  all_of_below t [] h = tt
  all_of_below t (e ∷ es) h = at_test (nat_lt e.timestamp t) (all_of_below t es h.1)
    where
      at_test : (c : Bool) → AllByRecursion IsOfCall (entries_below t es) → AllByRecursion IsOfCall (if c then e ∷ entries_below t es else entries_below t es)
      at_test true rest = (h.0, rest)
      at_test false rest = rest

  -- the entries below a timestamp replay where all do
  replays_below : (header : Header) (t bound : ℕ) (es : List CallEntry) (look : Item → ItemValue) → IsRising bound es → Replays same_item (meaning_of header calls) look es → Replays same_item (meaning_of header calls) look (entries_below t es)
  replays_below header t bound [] look r h = tt
  replays_below header t bound (e ∷ es) look r h = at_test (nat_lt e.timestamp t) (compared e.timestamp t) (replays_below header t e.timestamp es (lookup_after same_item e.writes look) r.1 h.1)
    where
      at_test : (c : Bool) → Compared e.timestamp t c → Replays same_item (meaning_of header calls) (lookup_after same_item e.writes look) (entries_below t es)
          → Replays same_item (meaning_of header calls) look (if c then e ∷ entries_below t es else entries_below t es)
      at_test c (less k) rest = (h.0, rest)
      at_test c (not_less k) rest = subst (Replays same_item (meaning_of header calls) look) (sym (none_left t e.timestamp es (omega arith) r.1)) tt

-- ---- the theorem

-- the same look-up, item by item
look_as : (l : Ledger) (look other : Item → ItemValue) → ((x : Item) → other x ≡ look x) → IsLookOf l look → IsLookOf l other
look_as l look other same is = record { orderly = is.orderly; same = λ x kept. same x ∙ is.same x kept }

module _ (base : Ledger) (header : Header) (calls : List CallData) (orderly : IsOrderly base) (w : CallWorld) (are : AreOfCalls calls w.entries) (serial : IsSerial same_item IsOfLedger (meaning_of header calls) (at base) w) where
  replay_all : IsReplayOf base (at base) header calls w.entries (calls_made calls w.entries)
  replay_all = histories_are_replays base (at base) header calls w.entries (calls_made calls w.entries) (ledgers_are_looks base orderly) serial.replays (are_calls_of calls w.entries are)

  replay_below : (t : ℕ) → IsReplayOf base (at base) header calls (entries_below t w.entries) (calls_made calls (entries_below t w.entries))
  replay_below t =
      histories_are_replays base (at base) header calls (entries_below t w.entries) (calls_made calls (entries_below t w.entries)) (ledgers_are_looks base orderly)
      (replays_below calls header t 0 w.entries (at base) serial.rising serial.replays) (are_calls_of calls (entries_below t w.entries) (all_of_below calls t w.entries are))

  serial_calls : AreSerialCalls base header calls w
  serial_calls = record {
    rising = serial.rising;
    are_calls = are;
    outcomes = replay_all.ends;
    newest = look_as (ledger_of base header calls w.entries) _ (state_below same_item (at base) w.entries (suc w.clock)) serial.newest replay_all.after;
    past = λ t. look_as (ledger_of base header calls (entries_below (suc t) w.entries)) _ (state_below same_item (at base) w.entries (suc t)) (serial.past t) (replay_below (suc t)).after;
    writes = λ t. (replay_below (suc t)).puts;
    live = all_map _ _ w.live (λ (a : CallAttempt) agrees. reads_agree (ledger_of base header calls (entries_below a.timestamp w.entries)) _ a.reads (replay_below a.timestamp).after agrees) serial.live;
    once = serial.once;
  }

pub every_interleaving_of_calls_is_serial_lem : EveryInterleavingIsSerial Item ItemValue Outcome IsOfLedger → EveryInterleavingOfCallsIsSerial
every_interleaving_of_calls_is_serial_lem theorem base header calls orderly w lead =
    serial_calls base header calls orderly w
    (subst (AreCalls calls) lead.lead_here (after_all calls base header lead.events first_world lead.begin_calls lead.apply (record { entries = tt; live = tt }))).entries
    (theorem same_item items_have_an_equality (meaning_of header calls) (at base) (base, ledgers_are_looks base orderly) w (record { events = lead.events; apply = lead.apply; leads_here = lead.lead_here }))

pub every_consistent_world_of_calls_is_serial_lem : EveryConsistentWorldIsSerial Item ItemValue Outcome IsOfLedger → EveryConsistentWorldOfCallsIsSerial
every_consistent_world_of_calls_is_serial_lem theorem base header calls orderly mark w consistent are =
    serial_calls base header calls orderly w are (theorem same_item (meaning_of header calls) (at base) (base, ledgers_are_looks base orderly) mark w consistent)

-- ---- one more event

-- the first world is one of the calls, and each event of the calls that applies leads to another
pub calls_lead_on : EveryEventOfCallsLeadsOn
calls_lead_on base header calls = (
  record { events = []; begin_calls = tt; apply = tt; lead_here = refl },
  λ w event lead begins applies. record {
    events = lead.events ++ event ∷ [];
    begin_calls = all_push (BeginsACall calls) lead.events event lead.begin_calls begins;
    apply = all_apply-push same_item IsOfLedger (meaning_of header calls) (at base) lead.events event first_world lead.apply
        (subst (λ v. Applies same_item IsOfLedger (meaning_of header calls) (at base) v event) (sym lead.lead_here) applies);
    lead_here = after_events-push same_item IsOfLedger (meaning_of header calls) (at base) lead.events event first_world ∙ ap (λ v. after_event same_item (at base) v event) lead.lead_here;
  },
)
