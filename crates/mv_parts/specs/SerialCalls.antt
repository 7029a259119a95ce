-- The order theorem for calls on a ledger, in words of the subject.
--
-- What it needs: a world, its events and where they apply (mv_history/specs/World.antt), with a call's meaning by its number
-- (CallHistory); outcomes and the ledger of calls made one after another (avm_call/specs/Replay.antt); the versions not above
-- a timestamp (state_below, mv_history/specs/History.antt); and that a look-up is a ledger's, which leaves open what it has
-- of the keys and counts of deleted applications (avm_laws/specs/LedgerLooks.antt).
use Rattle.std.specs.Prelude.{◌≡◌, ℕ, suc, ◌+◌, ◌≤◌, IsSome, List, map}
use Rattle.std.specs.List.{AllByRecursion}
use Rattle.avm_ledger.specs.declared.header.Header.{Header}
use Rattle.avm_ledger.specs.Ledgers.{IsOrderly, Ledger}
use Rattle.avm_items.specs.declared.call_data.CallData.{CallData}
use Rattle.avm_items.specs.declared.item.Item.{Item}
use Rattle.avm_items.specs.LedgerItems.{at, AgreesWithReads}
use Rattle.avm_call.specs.Replay.{outcomes, replayed}
use Rattle.avm_laws.specs.LedgerLooks.{IsLookOf, IsOfLedger}
use Rattle.mv_history.specs.History.{IsRising, commit_count, entries_below, state_below}
use Rattle.mv_history.specs.Schedule.{IsConsistent}
use Rattle.mv_history.specs.World.{AllApply, Applies, Begin, after_event, after_events, first_world, live_count}
use Rattle.mv_parts.specs.CallHistory.{CallEntry, CallEvent, CallWorld, calls_made, meaning_of, same_item}
use Rattle.mv_parts.specs.CallNumbers.{call_of}
use Rattle.mv_parts.specs.EntryWrites.{ledger_with}

-- what begins is one of the calls
abbrev pub BeginsACall : List CallData → CallEvent → Type 0
BeginsACall calls (Begin number) = IsSome (call_of calls number)
BeginsACall calls event = Unit {0}

-- Events lead to a world of these calls on a ledger, from the first one: each applies where it comes.
pub record CallsLeadTo (base : Ledger) (header : Header) (calls : List CallData) (w : CallWorld) : Type 0 where
  pub events : List CallEvent
  pub begin_calls : AllByRecursion (BeginsACall calls) events
  pub apply : AllApply same_item IsOfLedger (meaning_of header calls) (at base) first_world events
  pub lead_here : after_events same_item (at base) first_world events ≡ w

-- It is so at first, and each event that applies leads on.
abbrev pub EveryEventOfCallsLeadsOn : Type 0
EveryEventOfCallsLeadsOn =
    (base : Ledger) (header : Header) (calls : List CallData)
    → CallsLeadTo base header calls first_world
    × ((w : CallWorld) (event : CallEvent) → CallsLeadTo base header calls w → BeginsACall calls event → Applies same_item IsOfLedger (meaning_of header calls) (at base) w event
    → CallsLeadTo base header calls (after_event same_item (at base) w event))

-- each entry has the number of a call
abbrev pub AreOfCalls : List CallData → List CallEntry → Type 0
AreOfCalls calls es = AllByRecursion (λ (e : CallEntry). IsSome (call_of calls e.number)) es

-- the ledger after the calls of entries, made one after another
abbrev pub ledger_of : Ledger → Header → List CallData → List CallEntry → Ledger
ledger_of base header calls es = replayed base header (calls_made calls es)

-- The entries of a world are those of one thread.
pub record AreSerialCalls (base : Ledger) (header : Header) (calls : List CallData) (w : CallWorld) : Type 0 where
  pub rising : IsRising 0 w.entries
  -- each entry is of a call, and ends as the call does after those below it
  pub are_calls : AreOfCalls calls w.entries
  pub outcomes : outcomes base header (calls_made calls w.entries) ≡ map (λ (e : CallEntry). e.outcome) w.entries
  -- the newest versions are the ledger that the calls leave, and the versions not above a timestamp the ledger of those
  -- not above it; the entries' writes put into the first ledger lead there too
  pub newest : IsLookOf (ledger_of base header calls w.entries) (state_below same_item (at base) w.entries (suc w.clock))
  pub past : (t : ℕ) → IsLookOf (ledger_of base header calls (entries_below (suc t) w.entries)) (state_below same_item (at base) w.entries (suc t))
  pub writes : (t : ℕ) → ledger_with base (entries_below (suc t) w.entries) ≡ ledger_of base header calls (entries_below (suc t) w.entries)
  -- what is live has read the ledger of the calls below it
  pub live : AllByRecursion (λ a. AgreesWithReads (ledger_of base header calls (entries_below a.timestamp w.entries)) a.reads) w.live
  -- no call is committed twice, live twice, or both
  pub once : (number : ℕ) → commit_count number w.entries + live_count number w.live ≤ 1

-- whatever events come, in whatever order, from however many workers
abbrev pub EveryInterleavingOfCallsIsSerial : Type 0
EveryInterleavingOfCallsIsSerial =
    (base : Ledger) (header : Header) (calls : List CallData) → IsOrderly base → (w : CallWorld) → CallsLeadTo base header calls w → AreSerialCalls base header calls w

-- So is every world in which the facts hold that events keep, whatever keeps its marks.
abbrev pub EveryConsistentWorldOfCallsIsSerial : Type 0
EveryConsistentWorldOfCallsIsSerial =
    (base : Ledger) (header : Header) (calls : List CallData) → IsOrderly base
    → (mark : Item → ℕ → ℕ) (w : CallWorld) → IsConsistent same_item IsOfLedger (meaning_of header calls) (at base) mark w.clock w.low w.entries w.live → AreOfCalls calls w.entries
    → AreSerialCalls base header calls w
