-- When a finished call commits, why it is refused, and what a commit makes of a store.
use Rattle.std.specs.Prelude.{◌≡◌, ℕ, suc, nat_lt, if◌then◌else◌, [], ◌∷◌, get_or, set, Option, None, Some}
use Rattle.teal_value.specs.declared.failure.Failure.{Failure}
use Rattle.teal_value.specs.declared.failure.Failure.TheVariants as failure
use Rattle.avm_items.specs.declared.item.Item.{Item}
use Rattle.avm_items.specs.Items.{ItemMap}
use Rattle.avm_items.specs.LedgerItems.{at}
use Rattle.avm_run.specs.Results.{CallRecord}
use Rattle.mv_history.specs.History.{version_below}
use Rattle.mv_history.specs.SameWorlds.{IsSameWorld}
use Rattle.mv_history.specs.World.{after_commit, attempt_at, greatest_mark}
use Rattle.mv_chain.specs.Stores.{after_entry}
use Rattle.mv_parts.specs.CallHistory.{CallAttempt, same_item}
use Rattle.mv_parts.specs.CallLaws.{entry_of}
use Rattle.mv_shards.specs.Helds.{IsHeld, ShardSlots}
use Rattle.mv_shards.specs.Writing.{versions_for}
use Rattle.mv_parts.specs.declared.commit_fault.CommitFault.{CommitFault as PartsFault}
use Rattle.mv_parts.specs.declared.commit_fault.CommitFault.TheVariants as parts_fault
use Rattle.mv_parts.specs.Journals.{Journal}
use Rattle.mv_parts.specs.Commits.{IsOwnCall}
use Rattle.mv_parts.specs.Commits as parts
use Rattle.mv_core.specs.declared.faults.CommitFault.{CommitFault}
use Rattle.mv_core.specs.declared.faults.CommitFault.TheVariants as fault
use Rattle.mv_core.specs.AttemptSlots.{HasLiveNumber}
use Rattle.mv_core.specs.Stores.{CallSlots}
use Rattle.mv_core.specs.SeenStores.{Store}

-- the finished call is that of the live attempt: the call of its number, for the store's header, over what it has read
pub record IsOwn (s : Store) (n t : ℕ) (f : CallRecord) : Type 0 where
  pub attempt : CallAttempt
  pub live : attempt_at t s.world.live ≡ Some attempt
  pub number : attempt.number ≡ n
  pub own : IsOwnCall s.calls s.header attempt f

-- ---- writes that are late

-- the version that a write at a timestamp follows: the newest one not above it
abbrev pub version_followed : Store → ℕ → Item → ℕ
version_followed s t x = (version_below same_item (at s.base) s.world.entries (suc t) x).0

-- the last timestamp at which that version was read
abbrev pub mark_followed : Store → ℕ → Item → ℕ
mark_followed s t x = greatest_mark same_item s.world.marks x (version_followed s t x)

-- A write is late where the version that it follows was read above its timestamp. The least item whose write is.
abbrev pub late_write : Store → ℕ → ItemMap → Option CommitFault
late_write s t [] = None
late_write s t (e ∷ es) = if nat_lt t (mark_followed s t e.0) then Some (fault.Late e.0 (version_followed s t e.0) (mark_followed s t e.0)) else late_write s t es

-- ---- refusals

pub record MayCommit (s : Store) (n t : ℕ) (f : CallRecord) : Type 0 where
  pub own : IsOwn s n t f
  pub in_time : late_write s t f.writes ≡ None

-- The first of the tests that fails.
abbrev pub IsTestRefusal : Store → ℕ → ℕ → CallRecord → CommitFault → Type 0
IsTestRefusal s n t f fault.Unknown = HasLiveNumber s.world.live n t → ⊥
IsTestRefusal s n t f fault.Stranger = HasLiveNumber s.world.live n t × (IsOwn s n t f → ⊥)
IsTestRefusal s n t f (fault.Late x version mark) = IsOwn s n t f × (late_write s t f.writes ≡ Some (fault.Late x version mark))

-- It is this fault, or that memory ran out where there is none.
abbrev pub IsCommitRefusal : Store → ℕ → ℕ → CallRecord → Failure CommitFault → Type 0
IsCommitRefusal s n t f failure.Memory = MayCommit s n t f
IsCommitRefusal s n t f (failure.Fault found) = IsTestRefusal s n t f found

-- ---- the commit

-- The call is an entry at the timestamp, and its attempt has ended. What it read is marked, and what it wrote are versions.
pub record IsCommitted (old new : Store) (n t : ℕ) (f : CallRecord) : Type 0 where
  pub event : IsSameWorld same_item (at old.base) new.world (after_commit old.world (entry_of t n f))
  pub versions : (x : Item) → versions_for new.shard_slots x ≡ after_entry (λ value. value) same_item (entry_of t n f) (versions_for old.shard_slots) x
  pub others : new ≡ record old { world = new.world; shard_slots = new.shard_slots }

-- ---- by the journal

-- every item's shard is held
abbrev pub AreAllHeld : ShardSlots → Type 0
AreAllHeld shard_slots = (x : Item) → IsHeld shard_slots x

-- the attempt in a slot, committed by the journal
pub record IsCommittedSlot (old new : Journal) (before after : ShardSlots) (slots new_slots : CallSlots) (i : ℕ) (f : CallRecord) (t : ℕ) : Type 0 where
  pub attempt : CallAttempt
  pub found : get_or slots i None ≡ Some attempt
  pub time : t ≡ attempt.timestamp
  pub may : parts.MayCommit old before attempt f
  pub committed : parts.IsCommitted old new before after attempt f
  pub others : new_slots ≡ set slots i None

abbrev pub IsRefusedFor : Journal → ShardSlots → Option CallAttempt → CallRecord → Failure PartsFault → Type 0
IsRefusedFor j shard_slots None f error = ⊥
IsRefusedFor j shard_slots (Some a) f error = parts.IsCommitRefusal j shard_slots a f error

-- what a refusal by the journal is to a store, where all shards are held and agree with the journal
abbrev pub store_error : Failure PartsFault → Option (Failure CommitFault)
store_error failure.Memory = Some failure.Memory
store_error (failure.Fault parts_fault.Stranger) = Some (failure.Fault fault.Stranger)
store_error (failure.Fault (parts_fault.Late x version mark)) = Some (failure.Fault (fault.Late x version mark))
store_error (failure.Fault _) = None
