-- What each function that makes a worker's step leaves.
use Rattle.std.specs.Prelude.{◌≡◌, ℕ, suc, ◌+◌, ◌^◌, ◌-◌, ◌==◌, ◌&&◌, Bool, true, false, nat_lt, is_some, Option, IsSome, None, Some, Err}
use Rattle.avm_items.specs.declared.item.Item.{Item}
use Rattle.avm_items.specs.Asks.{answer_from}
use Rattle.avm_items.specs.Items.{value_in, with_item}
use Rattle.avm_items.specs.LedgerItems.{at}
use Rattle.avm_call.specs.Calls.{call_result}
use Rattle.avm_run.specs.Results.{CallRecord, IsFinishedCall}
use Rattle.avm_run.specs.RunState.{Progress}
use Rattle.mv_history.specs.History.{commit_count, version_below}
use Rattle.mv_history.specs.SameWorlds.{IsSameWorld}
use Rattle.mv_history.specs.World.{after_abandon, after_begin, after_commit, after_read, fresh_attempt, live_count}
use Rattle.mv_parts.specs.CallHistory.{CallAttempt, same_item}
use Rattle.mv_parts.specs.CallNumbers.{call_of}
use Rattle.mv_parts.specs.CallLaws.{entry_of}
use Rattle.mv_core.specs.declared.running.Event.{Event}
use Rattle.mv_core.specs.declared.running.Event.TheVariants as event
use Rattle.mv_core.specs.Running.{index_among}
use Rattle.mv_core.specs.declared.ticket.Ticket.{Ticket}
use Rattle.mv_core.specs.declared.world.Worker.{Worker}
use Rattle.mv_core.specs.declared.world.Worker.TheVariants as worker
use Rattle.mv_core.specs.Commits.{late_write}
use Rattle.mv_core.specs.SeenStores.{Store}
use Rattle.mv_core.specs.Worlds.{input_of, reads_or_none, attempt_by, attempt_of, IsLiveWith}

-- a run that is not spent
abbrev pub IsGoing : Option Progress → Type 0
IsGoing run = IsSome run

-- what a run comes to: the next item that it asks for, or the end of its call
pub record AsksNext (before : Progress) (run : Option Progress) (x : Item) : Type 0 where
  pub after : Progress
  pub goes_on : run ≡ Some after
  pub same_call : after.call ≡ before.call
  pub same_header : after.header ≡ before.header
  pub same_reads : after.reads ≡ before.reads
  pub asked : after.asked ≡ Some x
  pub definition : answer_from (value_in before.reads) (call_result before.call before.header) ≡ Err x
  pub not_supplied : value_in before.reads x ≡ None

pub record EndsNow (before : Progress) (f : CallRecord) : Type 0 where
  pub same_call : f.call ≡ before.call
  pub same_header : f.header ≡ before.header
  pub same_reads : f.reads ≡ before.reads
  pub finished : IsFinishedCall f

abbrev pub ComesTo : Ticket → Progress → Worker → Type 0
ComesTo ticket before worker.Idle = ⊥
ComesTo ticket before (worker.Running own run x) = (own ≡ ticket) × AsksNext before run x
ComesTo ticket before (worker.Finished own f) = (own ≡ ticket) × EndsNow before f

abbrev pub IsAdvanced : Ticket → Option Progress → Worker → Type 0
IsAdvanced ticket None worker = ⊥
IsAdvanced ticket (Some before) worker = ComesTo ticket before worker

-- a call that may begin
abbrev pub may_begin_call : Store → ℕ → Bool
may_begin_call s n = is_some (call_of s.calls n) && (commit_count n s.world.entries == 0) && (live_count n s.world.live == 0) && nat_lt s.world.clock (2 ^ 64 - 1)

-- a call begins at the next timestamp, or may not
abbrev pub IsBegun : Store → Store → ℕ → Option CallAttempt → Type 0
IsBegun old new n None = (new ≡ old) × (may_begin_call old n ≡ false)
IsBegun old new n (Some a) = (a ≡ fresh_attempt n (old.world.clock + 1)) × (new ≡ record old { world = after_begin old.world n }) × (may_begin_call old n ≡ true)

abbrev pub IsBegunBy : Store → Store → ℕ → Option CallAttempt → Option CallAttempt → Type 0
IsBegunBy old new n None after = IsBegun old new n after
IsBegunBy old new n (Some a) after = (new ≡ old) × (after ≡ Some a)

-- the version that an attempt finds joins its reads, and is marked
pub record IsReadByStore (old new : Store) (a : CallAttempt) (x : Item) (after : Option CallAttempt) : Type 0 where
  pub input : input_of new ≡ input_of old
  pub event : IsSameWorld same_item (at old.base) new.world (after_read same_item (at old.base) old.world a.timestamp (index_among a.reads x) x)
  pub joins : after ≡ Some (record a { reads = with_item a.reads x (version_below same_item (at old.base) old.world.entries (suc a.timestamp) x).1 })

abbrev pub IsReadBy : Store → Store → Worker → Option CallAttempt → Type 0
IsReadBy old new worker.Idle after = (new ≡ old) × (after ≡ None)
IsReadBy old new (worker.Running ticket run x) after = IsReadByStore old new (attempt_by ticket (reads_or_none run)) x after
IsReadBy old new (worker.Finished ticket f) after = (new ≡ old) × (after ≡ Some (attempt_by ticket f.reads))

-- a call that has ended commits, or is late
pub record IsCommittedOn (old new : Store) (a : CallAttempt) (f : CallRecord) : Type 0 where
  pub in_time : late_write old a.timestamp f.writes ≡ None
  pub input : input_of new ≡ input_of old
  pub event : IsSameWorld same_item (at old.base) new.world (after_commit old.world (entry_of a.timestamp a.number f))

abbrev pub IsCommit : Store → Store → CallAttempt → CallRecord → Option CallAttempt → Type 0
IsCommit old new a f None = IsCommittedOn old new a f
IsCommit old new a f (Some after) = (is_some (late_write old a.timestamp f.writes) ≡ true) × (new ≡ old) × (after ≡ a)

abbrev pub IsCommitBy : Store → Store → Worker → Option CallAttempt → Type 0
IsCommitBy old new worker.Idle after = (new ≡ old) × (after ≡ None)
IsCommitBy old new (worker.Running ticket run x) after = (new ≡ old) × (after ≡ Some (attempt_by ticket (reads_or_none run)))
IsCommitBy old new (worker.Finished ticket f) after = IsCommit old new (attempt_by ticket f.reads) f after

abbrev pub IsAbandonBy : Store → Store → Option CallAttempt → Option CallAttempt → Type 0
IsAbandonBy old new None after = (new ≡ old) × (after ≡ None)
IsAbandonBy old new (Some a) after = (new ≡ record old { world = after_abandon old.world a.timestamp }) × (after ≡ None)

-- what a worker's event makes of the store, and of its attempt
abbrev pub IsWork : Event → Store → Store → Worker → Option CallAttempt → Type 0
IsWork (event.Begin w n) old new worker after = IsBegunBy old new n (attempt_of worker) after
IsWork (event.Read w) old new worker after = IsReadBy old new worker after
IsWork (event.Commit w) old new worker after = IsCommitBy old new worker after
IsWork (event.Abandon w) old new worker after = IsAbandonBy old new (attempt_of worker) after
IsWork (event.Prune t) old new worker after = ⊥

-- the worker whose event it is
abbrev pub worker_in : Event → Option ℕ
worker_in (event.Begin w n) = Some w
worker_in (event.Read w) = Some w
worker_in (event.Commit w) = Some w
worker_in (event.Abandon w) = Some w
worker_in (event.Prune t) = None

-- its attempt is live, if it has one
abbrev pub IsLiveIfAny : Store → Option CallAttempt → Type 0
IsLiveIfAny s None = Unit {0}
IsLiveIfAny s (Some a) = IsLiveWith s a
