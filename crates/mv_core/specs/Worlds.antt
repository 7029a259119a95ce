-- Eight workers over a store, against what their steps mean.
use Rattle.std.specs.Prelude.{◌≡◌, ℕ, List, [], get_or, map, Option, None, Some, Err}
use Rattle.std.specs.List.{AllByRecursion}
use Rattle.avm_items.specs.declared.item.Item.{Item}
use Rattle.avm_items.specs.Asks.{answer_from}
use Rattle.avm_items.specs.Items.{ItemMap, value_in}
use Rattle.avm_call.specs.Calls.{call_result}
use Rattle.avm_run.specs.Results.{CallRecord, IsFinishedCall}
use Rattle.avm_run.specs.RunState.{Progress}
use Rattle.mv_history.specs.World.{attempt_at}
use Rattle.mv_parts.specs.CallHistory.{CallAttempt}
use Rattle.mv_parts.specs.CallNumbers.{call_of}
use Rattle.mv_core.specs.declared.running.Event.{Event}
use Rattle.mv_core.specs.RunningLaws.{IsSameRunning}
use Rattle.mv_core.specs.Running.{RunInput, Running, first_running, running_after, running_from}
use Rattle.mv_core.specs.declared.ticket.Ticket.{Ticket}
use Rattle.mv_core.specs.declared.world.Worker.{Worker}
use Rattle.mv_core.specs.declared.world.Worker.TheVariants as worker
use Rattle.mv_core.specs.declared.world.World.{World}
use Rattle.mv_core.specs.SeenStores.{Store}

abbrev pub input_of : Store → RunInput
input_of s = record { base = s.base; header = s.header; calls = s.calls }

-- ---- what a worker has

abbrev pub reads_or_none : Option Progress → ItemMap
reads_or_none None = []
reads_or_none (Some p) = p.reads

-- the attempt of a worker, with what it has read
abbrev pub attempt_by : Ticket → ItemMap → CallAttempt
attempt_by ticket reads = record { number = ticket.number; timestamp = ticket.timestamp; reads = reads }

abbrev pub attempt_of : Worker → Option CallAttempt
attempt_of worker.Idle = None
attempt_of (worker.Running ticket run asks) = Some (attempt_by ticket (reads_or_none run))
attempt_of (worker.Finished ticket finished) = Some (attempt_by ticket finished.reads)

abbrev pub ticket_of : CallAttempt → Ticket
ticket_of a = record { number = a.number; timestamp = a.timestamp }

-- the run of a call, which asks for an item that it was not supplied with
pub record TicketAsksFor (input : RunInput) (ticket : Ticket) (run : Option Progress) (x : Item) : Type 0 where
  pub progress : Progress
  pub goes_on : run ≡ Some progress
  pub call : call_of input.calls ticket.number ≡ Some progress.call
  pub header : progress.header ≡ input.header
  pub asked : progress.asked ≡ Some x
  pub definition : answer_from (value_in progress.reads) (call_result progress.call progress.header) ≡ Err x
  pub not_supplied : value_in progress.reads x ≡ None

-- the call of an attempt, which has ended
pub record TicketHasEnded (input : RunInput) (ticket : Ticket) (f : CallRecord) : Type 0 where
  pub call : call_of input.calls ticket.number ≡ Some f.call
  pub header : f.header ≡ input.header
  pub finished : IsFinishedCall f

abbrev pub IsSoundWorker : RunInput → Worker → Type 0
IsSoundWorker input worker.Idle = Unit {0}
IsSoundWorker input (worker.Running ticket run asks) = TicketAsksFor input ticket run asks
IsSoundWorker input (worker.Finished ticket finished) = TicketHasEnded input ticket finished

abbrev pub AreSound : RunInput → List Worker → Type 0
AreSound input workers = AllByRecursion (IsSoundWorker input) workers

-- what is seen of a store and its workers
abbrev pub running_of : Store → List Worker → Running
running_of s workers = record { world = s.world; workers = map attempt_of workers }

-- the attempt is live, with what it has read
abbrev pub IsLiveWith : Store → CallAttempt → Type 0
IsLiveWith s a = attempt_at a.timestamp s.world.live ≡ Some a

-- each worker's attempt is
abbrev pub AreLiveIn : Store → List Worker → Type 0
AreLiveIn s workers = (w : ℕ) (a : CallAttempt) → get_or (map attempt_of workers) w None ≡ Some a → IsLiveWith s a

-- ---- steps

-- one step of one worker
pub record IsStep (e : Event) (old new : Store) (workers new_workers : List Worker) : Type 0 where
  pub input : input_of new ≡ input_of old
  pub running : IsSameRunning (input_of old) (running_after (input_of old) (running_of old workers) e) (running_of new new_workers)
  pub sound : AreSound (input_of old) new_workers

-- a store and workers that events lead to
pub record IsRunTo (input : RunInput) (events : List Event) (s : Store) (workers : List Worker) : Type 0 where
  pub input_is : input_of s ≡ input
  pub running : IsSameRunning input (running_from input first_running events) (running_of s workers)
  pub sound : AreSound input workers

abbrev pub IsRun : RunInput → List Event → World → Type 0
IsRun input events w = IsRunTo input events w.store w.workers.items
