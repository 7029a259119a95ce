-- The commit of an attempt's own call to shards that agree.
use Rattle.std.proofs.Common.{◌≡◌, ℕ, refl, sym, subst}
use Rattle.teal_value.specs.declared.failure.Failure.{Failure}
use Rattle.teal_value.specs.declared.failure.Failure.TheVariants as failure
use Rattle.avm_run.specs.Results.{CallRecord}
use Rattle.mv_history.specs.History.{IsRising}
use Rattle.mv_shards.specs.Helds.{AreAtIndexes, ShardSlots}
use Rattle.mv_shards.specs.TestedWrites.{IsTestedWrite}
use Rattle.mv_shards.specs.Writing.{CanTake}
use Rattle.mv_parts.specs.Agreeing.{AllAgree}
use Rattle.mv_parts.specs.CallHistory.{CallAttempt}
use Rattle.mv_parts.specs.declared.commit_fault.CommitFault.{CommitFault}
use Rattle.mv_parts.specs.Commits.{AreCovered, IsCommitRefusal, IsOwnCall, IsWriteError, MayCommit, MayWrite, reading}
use Rattle.mv_parts.specs.CommitTests.{IsOpenAt}
use Rattle.mv_parts.specs.Journals.{IsConsistentJournal, IsLive, Journal}
use Rattle.mv_parts.proofs.Commits.{test_refusal}
use Rattle.mv_parts.proofs.CommitTests.{may_write, open_at, takes_agreeing}

module _ (j : Journal) (held : ShardSlots) (a : CallAttempt) (f : CallRecord) (agree : AllAgree j held) (at_index : AreAtIndexes held) (consistent : IsConsistentJournal j) (rising : IsRising 0 j.world.entries) (live : IsLive j.world a)
    (own : IsOwnCall j.calls j.header (reading a f) f) (covers : AreCovered held f.reads f.writes) (t : ℕ) (t_is : t ≡ a.timestamp) where
  pub open_here : IsOpenAt j t
  open_here = subst (IsOpenAt j) (sym t_is) (open_at j a consistent live)

  -- the shards take it
  pub takes_own : CanTake t held f.reads f.writes
  takes_own = takes_agreeing j held agree at_index t open_here rising f.reads f.writes covers

  may_commit : MayWrite j held t f.reads f.writes → MayCommit j held (reading a f) f
  may_commit may = record { live = live; own = own; write = subst (λ n. MayWrite j held n f.reads f.writes) t_is may }

  -- what was written to them might be
  pub may_commit_own : (after : ShardSlots) → IsTestedWrite t f.reads f.writes held after → MayCommit j held (reading a f) f
  may_commit_own after written = may_commit (may_write j held agree at_index t open_here rising f.reads f.writes after covers written)

  -- what was not written is refused
  pub refused_own : (error : Failure CommitFault) → IsWriteError j held t f.reads f.writes error → IsCommitRefusal j held (reading a f) f error
  refused_own failure.Memory may = may_commit may
  refused_own (failure.Fault found) refused = test_refusal j held (reading a f) f t f.reads f.writes found t_is refl refl live own refused
