-- What every list of events comes to. The statements of the laws.
use Rattle.std.specs.Prelude.{◌≡◌, ◌↔◌, ℕ, true, List, Some, Err}
use Rattle.std.specs.List.{Contains}
use Rattle.avm_ledger.specs.Ledgers.{IsOrderly, Ledger}
use Rattle.avm_items.specs.declared.call_data.CallData.{CallData}
use Rattle.avm_items.specs.declared.item.Item.{Item}
use Rattle.avm_items.specs.Items.{value_in}
use Rattle.avm_items.specs.LedgerItems.{at, AgreesWithReads}
use Rattle.avm_items.specs.Asks.{answer_from, items_asked}
use Rattle.avm_call.specs.AskedFor.{AreAskedFor}
use Rattle.avm_call.specs.Calls.{call_result}
use Rattle.mv_history.specs.SameWorlds.{IsSameWorld}
use Rattle.mv_history.specs.World.{IsInTime, attempt_at, greatest_mark}
use Rattle.mv_parts.specs.CallHistory.{CallAttempt, CallEntry, same_item}
use Rattle.mv_parts.specs.CallNumbers.{call_of}
use Rattle.mv_parts.specs.SerialCalls.{AreSerialCalls, CallsLeadTo}
use Rattle.mv_core.specs.declared.running.Event.{Event}
use Rattle.mv_core.specs.Running.{RunInput, Running, first_running, running_after, running_from, worker_at, writes_in_time}

-- the events of the order theorem lead to the world: each step is one of them, or changes nothing
abbrev pub EveryRunLeadsOn : Type 0
EveryRunLeadsOn = (input : RunInput) (events : List Event) → CallsLeadTo input.base input.header input.calls (running_from input first_running events).world

-- so its committed calls are those of one thread
abbrev pub EveryRunIsSerial : Type 0
EveryRunIsSerial = (input : RunInput) (events : List Event) → IsOrderly input.base → AreSerialCalls input.base input.header input.calls (running_from input first_running events).world

-- A worker's attempt is live, of one of the calls, and has read what its call asked for.
pub record IsAtWork (input : RunInput) (r : Running) (a : CallAttempt) : Type 0 where
  pub live : attempt_at a.timestamp r.world.live ≡ Some a
  pub call : CallData
  pub is_call : call_of input.calls a.number ≡ Some call
  pub asked : AreAskedFor a.reads call input.header

-- each worker has an attempt of its own
pub record AreAtWork (input : RunInput) (r : Running) : Type 0 where
  pub each : (w : ℕ) (a : CallAttempt) → worker_at r w ≡ Some a → IsAtWork input r a
  pub own : (v w : ℕ) (a b : CallAttempt) → worker_at r v ≡ Some a → worker_at r w ≡ Some b → a.timestamp ≡ b.timestamp → v ≡ w

abbrev pub EveryWorkerIsLive : Type 0
EveryWorkerIsLive = (input : RunInput) (events : List Event) → AreAtWork input (running_from input first_running events)

-- The item that an attempt asks for next is used by its call, on every ledger that has what the attempt has read.
abbrev pub EveryReadIsUsed : Type 0
EveryReadIsUsed =
    (input : RunInput) (a : CallAttempt) (call : CallData) (x : Item) → call_of input.calls a.number ≡ Some call → answer_from (value_in a.reads) (call_result call input.header) ≡ Err x
    → (l : Ledger) → IsOrderly l → AgreesWithReads l a.reads → Contains (items_asked (at l) (call_result call input.header)) x

-- ---- runs that differ in marks that don't count

-- one state but for marks of versions that no one from the low mark on asks for
pub record IsSameRunning (input : RunInput) (r s : Running) : Type 0 where
  pub world : IsSameWorld same_item (at input.base) r.world s.world
  pub workers : r.workers ≡ s.workers

-- the same event leads to the same state again
abbrev pub EverySameRunGoesOn : Type 0
EverySameRunGoesOn =
    (input : RunInput) (r s : Running) → CallsLeadTo input.base input.header input.calls r.world → AreAtWork input r → IsSameRunning input r s
    → (e : Event) → IsSameRunning input (running_after input r e) (running_after input s e)

-- the test of a commit is the order theorem's
abbrev pub TestsAreInTime : Type 0
TestsAreInTime =
    (input : RunInput) (r : Running) (e : CallEntry)
    → (writes_in_time input r e.timestamp e.writes ≡ true) ↔ IsInTime same_item (at input.base) (greatest_mark same_item r.world.marks) r.world.entries e
