-- What is seen of a journal and of shards that know the log of their run, and what they keep.
use Rattle.std.specs.Prelude.{◌≡◌, ◌≢◌, ℕ, ◌<◌, ◌≤◌, ◌⊎◌, ◌+◌, ◌++◌, ◌∷◌, [], List, Option, None, Some, drop, get_or, length, max, slice_index}
use Rattle.std.specs.List.{AllByRecursion}
use mathlib.Core.List.{IsPrefix}
use Rattle.teal_value.specs.declared.failure.Failure.{Failure}
use Rattle.teal_value.specs.declared.failure.Failure.TheVariants.{Memory}
use Rattle.avm_ledger.specs.declared.header.Header.{Header}
use Rattle.avm_ledger.specs.Ledgers.{Ledger}
use Rattle.avm_items.specs.declared.call_data.CallData.{CallData}
use Rattle.avm_run.specs.Results.{CallRecord}
use Rattle.mv_history.specs.History.{entries_with}
use Rattle.mv_history.specs.World.{first_world}
use Rattle.mv_shards.specs.Helds.{ShardSlots}
use Rattle.mv_shards.specs.Indexes.{shard_count, shard_of}
use Rattle.mv_shards.specs.Shards.{Shard}
use Rattle.mv_parts.specs.declared.commit_fault.CommitFault.{CommitFault}
use Rattle.mv_parts.specs.Agreeing.{ShardAgrees}
use Rattle.mv_parts.specs.CallHistory.{CallAttempt, CallEntry}
use Rattle.mv_parts.specs.CallLaws.{entry_of}
use Rattle.mv_parts.specs.Commits.{IsCommitRefusal, IsCommitted}
use Rattle.mv_parts.specs.Journals.{Journal, first_journal}

-- ---- logs

-- the entries of a log by timestamp, after those that there were
abbrev pub in_order_after : List CallEntry → List CallEntry → List CallEntry
in_order_after es [] = es
in_order_after es (e ∷ log) = in_order_after (entries_with e es) log

abbrev pub in_order : List CallEntry → List CallEntry
in_order log = in_order_after [] log

-- a journal of this ledger, header and calls, with this low mark, whose commits are those of a log
abbrev pub journal_after : Ledger → Header → List CallData → ℕ → List CallEntry → Journal
journal_after base header calls low log = record (first_journal base header calls) { world = record first_world { low = low; entries = in_order log } }

-- an entry neither reads nor writes an item of a shard
abbrev pub IsApart : ℕ → CallEntry → Type 0
IsApart index e = AllByRecursion (λ read. shard_of read.0 ≢ index) e.reads × AllByRecursion (λ write. shard_of write.0 ≢ index) e.writes

-- no entry of a log, from a number on, reads or writes an item of a shard
pub record IsLast (index number : ℕ) (log : List CallEntry) : Type 0 where
  pub within : number ≤ length log
  pub apart : AllByRecursion (IsApart index) (drop number log)

-- ---- shards

-- a shard, and the beginning of the log that it agrees with
pub record LoggedShard : Type 0 where
  pub shard : Shard
  pub seen : List CallEntry

abbrev pub AgreesAfter : Ledger → Header → List CallData → List CallEntry → Shard → Type 0
AgreesAfter base header calls log s = ShardAgrees (journal_after base header calls s.low log) s

-- of each shard that is held its low mark, and the beginning of the log that it agrees with
abbrev pub Note : Type 0
Note = Option (ℕ × List CallEntry)

pub record LoggedHeld : Type 0 where
  pub slots : ShardSlots
  pub notes : List Note

abbrev pub IsNoted : Ledger → Header → List CallData → ℕ → Option Shard → Note → Type 0
IsNoted base header calls i None p = Unit {0}
IsNoted base header calls i (Some s) None = ⊥
IsNoted base header calls i (Some s) (Some n) = (s.index ≡ i) × (n.0 ≡ s.low) × AgreesAfter base header calls n.1 s

pub record AreNoted (base : Ledger) (header : Header) (calls : List CallData) (slots : ShardSlots) (notes : List Note) : Type 0 where
  pub count : length notes ≡ shard_count
  pub each : (i : ℕ) → IsNoted base header calls i (get_or slots i None) (get_or notes i None)

abbrev pub raised_note : ℕ → Note → Note
raised_note low None = None
raised_note low (Some n) = Some (max n.0 low, n.1)

abbrev pub note_of : List CallEntry → Note → Note
note_of log None = None
note_of log (Some n) = Some (n.0, log)

-- ---- the journal

-- the journal, the log of its commits, and for each shard how many of them there were when an item of it was last read or written
pub record LoggedJournal : Type 0 where
  pub journal : Journal
  pub log : List CallEntry
  pub last : List ℕ

-- it is of this ledger, header and calls
pub record IsJournalOver (base : Ledger) (header : Header) (calls : List CallData) (j : Journal) : Type 0 where
  pub base_is : j.base ≡ base
  pub header_is : j.header ≡ header
  pub calls_are : j.calls ≡ calls

pub record IsLoggedJournal (base : Ledger) (header : Header) (calls : List CallData) (j : Journal) (log : List CallEntry) (room : ℕ) (last : List ℕ) : Type 0 where
  pub over : IsJournalOver base header calls j
  pub ordered : j.world.entries ≡ in_order log
  pub has_room : length calls ≤ length log + room
  pub count : length last ≡ shard_count
  pub each_last : (i : ℕ) → i < shard_count → IsLast i (slice_index last i) log

-- a shard has the journal's low mark, and no commit since the last that it took part in has read or written an item of it
abbrev pub IsCurrent : ℕ → ℕ → Note → Type 0
IsCurrent low last None = Unit {0}
IsCurrent low last (Some n) = (n.0 ≡ low) × (length n.1 ≡ last)

abbrev pub AreCurrent : ℕ → List ℕ → List Note → Type 0
AreCurrent low last notes = (i : ℕ) → i < length notes → IsCurrent low (slice_index last i) (get_or notes i None)

-- each was seen of one log
abbrev pub IsBeginning : List CallEntry → Note → Type 0
IsBeginning log None = Unit {0}
IsBeginning log (Some n) = length n.1 ≤ length log → IsPrefix n.1 log

abbrev pub AreBeginnings : List CallEntry → List Note → Type 0
AreBeginnings log notes = (i : ℕ) → i < length notes → IsBeginning log (get_or notes i None)

-- the call is committed, and its entry is the last of the log
pub record IsLoggedCommit (old new : LoggedJournal) (before after : LoggedHeld) (a : CallAttempt) (f : CallRecord) : Type 0 where
  pub committed : IsCommitted old.journal new.journal before.slots after.slots a f
  pub log : new.log ≡ old.log ++ entry_of a.timestamp a.number f ∷ []

-- It is refused as the journal says; or as where memory ran out, since a shard is not current.
abbrev pub IsLoggedRefusal : LoggedJournal → LoggedHeld → CallAttempt → CallRecord → Failure CommitFault → Type 0
IsLoggedRefusal j held a f error = IsCommitRefusal j.journal held.slots a f error ⊎ ((AreCurrent j.journal.world.low j.last held.notes → ⊥) × (error ≡ Memory))
