-- Eight workers that begin calls, read, commit, abandon and prune, by a list of events: what each event does.
use Rattle.std.specs.Prelude.{ℕ, suc, ◌+◌, ◌-◌, ◌^◌, ◌==◌, ◌&&◌, Bool, true, nat_lt, nat_le, if◌then◌else◌, List, [], ◌∷◌, length, get_or, set, Option, None, Some, Ok, Err, is_none, is_some}
use Rattle.std.specs.Ordering.{match_ordering}
use Rattle.avm_ledger.specs.declared.header.Header.{Header}
use Rattle.avm_ledger.specs.Ledgers.{Ledger}
use Rattle.avm_items.specs.declared.call_data.CallData.{CallData}
use Rattle.avm_items.specs.declared.item.Item.{Item}
use Rattle.avm_items.specs.declared.item_value.ItemValue.{ItemValue}
use Rattle.avm_items.specs.Items.{ItemMap, item_cmp, value_in, with_item}
use Rattle.avm_items.specs.LedgerItems.{at, pruned, value_before}
use Rattle.avm_items.specs.Asks.{Answer, answer_from}
use Rattle.avm_call.specs.Calls.{CallResult, call_result}
use Rattle.mv_history.specs.History.{commit_count, version_below}
use Rattle.mv_history.specs.World.{after_begin, after_read, after_commit, after_abandon, after_prune, first_world, fresh_attempt, greatest_mark, live_count}
use Rattle.mv_parts.specs.CallHistory.{CallAttempt, CallEntry, CallWorld, same_item}
use Rattle.mv_parts.specs.CallNumbers.{call_of}
use Rattle.mv_core.specs.declared.running.Event.{Event}
use Rattle.mv_core.specs.declared.running.Event.TheVariants as event

-- the ledger, the header and the calls, numbered from 1
pub record RunInput : Type 0 where
  pub base : Ledger
  pub header : Header
  pub calls : List CallData

-- the world, and the attempt of each worker that has one
pub record Running : Type 0 where
  pub world : CallWorld
  pub workers : List (Option CallAttempt)

abbrev pub first_running : Running
first_running = record { world = first_world; workers = None ∷ None ∷ None ∷ None ∷ None ∷ None ∷ None ∷ None ∷ [] }

abbrev pub worker_at : Running → ℕ → Option CallAttempt
worker_at r w = get_or r.workers w None

-- the world, and one worker with another attempt, or idle
abbrev pub with_worker : Running → CallWorld → ℕ → Option CallAttempt → Running
with_worker r world w attempt = record { world = world; workers = set r.workers w attempt }

-- how a call ends over what was read, or the item that it asks for next
abbrev pub answer_of : Header → ItemMap → Option CallData → Option (Answer CallResult)
answer_of header reads None = None
answer_of header reads (Some call) = Some (answer_from (value_in reads) (call_result call header))

-- Begin: an idle worker, and a call that is neither live nor committed; the clock of the machine has 64 bits
abbrev pub may_begin : RunInput → Running → ℕ → ℕ → Bool
may_begin input r w number =
    nat_lt w (length r.workers) && is_none (worker_at r w) && is_some (call_of input.calls number) && (commit_count number r.world.entries == 0) && (live_count number r.world.live == 0) && nat_lt r.world.clock (2 ^ 64 - 1)

-- where a sorted map lists a new item
abbrev pub index_among : ItemMap → Item → ℕ
index_among [] x = 0
index_among (e ∷ es) x = match_ordering (item_cmp x e.0) 0 0 (suc (index_among es x))

-- the version that an attempt at a timestamp finds, as (timestamp, value)
abbrev pub version_before : RunInput → Running → ℕ → Item → ℕ × ItemValue
version_before input r t x = version_below same_item (at input.base) r.world.entries (suc t) x

-- Read: where the call asks for an item, the version found joins the reads, and is marked
abbrev pub read_by : RunInput → Running → ℕ → CallAttempt → Option (Answer CallResult) → Running
read_by input r w a (Some (Err x)) =
    with_worker r (after_read same_item (at input.base) r.world a.timestamp (index_among a.reads x) x) w (Some (record a { reads = with_item a.reads x (version_before input r a.timestamp x).1 }))
read_by input r w a answer = r

-- no version that one of the writes follows was read above the timestamp
abbrev pub writes_in_time : RunInput → Running → ℕ → ItemMap → Bool
writes_in_time input r t [] = true
writes_in_time input r t (e ∷ es) = nat_le (greatest_mark same_item r.world.marks e.0 (version_before input r t e.0).0) t && writes_in_time input r t es

-- Commit: where the call asks for nothing more and is in time, its entry joins the others; its writes are those that change
-- something
abbrev pub entry_by : CallAttempt → CallResult → CallEntry
entry_by a result = record { timestamp = a.timestamp; number = a.number; outcome = result.0; reads = a.reads; writes = pruned (value_before (value_in a.reads)) result.1 }

abbrev pub commit_by : RunInput → Running → ℕ → CallAttempt → Option (Answer CallResult) → Running
commit_by input r w a (Some (Ok result)) = if writes_in_time input r a.timestamp (entry_by a result).writes then with_worker r (after_commit r.world (entry_by a result)) w None else r
commit_by input r w a answer = r

-- a step of a worker that has an attempt
abbrev pub by_worker : Running → (CallAttempt → Running) → Option CallAttempt → Running
by_worker r step None = r
by_worker r step (Some a) = step a

abbrev pub running_after : RunInput → Running → Event → Running
running_after input r (event.Begin w number) = if may_begin input r w number then with_worker r (after_begin r.world number) w (Some (fresh_attempt number (r.world.clock + 1))) else r
running_after input r (event.Read w) = by_worker r (λ a. read_by input r w a (answer_of input.header a.reads (call_of input.calls a.number))) (worker_at r w)
running_after input r (event.Commit w) = by_worker r (λ a. commit_by input r w a (answer_of input.header a.reads (call_of input.calls a.number))) (worker_at r w)
running_after input r (event.Abandon w) = by_worker r (λ a. with_worker r (after_abandon r.world a.timestamp) w None) (worker_at r w)
running_after input r (event.Prune t) = record r { world = after_prune r.world t r.world.marks }

-- what the events lead to, one after another
abbrev pub running_from : RunInput → Running → List Event → Running
running_from input r [] = r
running_from input r (e ∷ es) = running_from input (running_after input r e) es
