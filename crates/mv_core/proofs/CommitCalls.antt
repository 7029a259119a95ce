-- A store's commit, by the contracts of the journal and of the index that its ticket names.
use Rattle.std.proofs.Common.{◌≡◌, ℕ, zero, suc, ◌-◌, true, false, List, [], ◌∷◌, Option, None, Some, get_or, set, slice_set, refl, sym, ap, ◌∙◌, subst}
use Rattle.std.specs.Prelude.{IsSome}
use Rattle.std.proofs.lemmas.Option.{same_Some}
use Rattle.teal_value.specs.declared.failure.Failure.{Failure}
use Rattle.teal_value.specs.declared.failure.Failure.TheVariants as failure
use Rattle.avm_run.specs.Results.{CallRecord, IsFinishedCall}
use Rattle.mv_history.specs.World.{after_commit, attempt_at}
use Rattle.mv_parts.specs.CallHistory.{CallAttempt}
use Rattle.mv_parts.specs.CallLaws.{entry_of}
use Rattle.mv_shards.specs.Helds.{ShardSlots}
use Rattle.mv_shards.specs.Shards.{Shard}
use Rattle.mv_shards.specs.Writing.{IsWrittenSlot}
use Rattle.mv_parts.specs.declared.commit_fault.CommitFault.{CommitFault as PartsFault}
use Rattle.mv_parts.specs.declared.commit_fault.CommitFault.TheVariants as parts_fault
use Rattle.mv_parts.specs.Journals as journal
use Rattle.mv_parts.specs.Journals.{IsConsistentJournal, Journal}
use Rattle.mv_parts.specs.Agreeing.{AllAgree, ShardAgrees}
use Rattle.mv_parts.proofs.Agreeing.{every_commit_keeps_agreement}
use Rattle.mv_parts.specs.Commits.{IsOwnCall}
use Rattle.mv_parts.specs.Commits as parts
use Rattle.mv_core.specs.declared.faults.CommitFault.{CommitFault}
use Rattle.mv_core.specs.declared.faults.CommitFault.TheVariants as fault
use Rattle.mv_core.specs.AttemptSlots.{HasLiveNumber, IsAttemptAt, live_in}
use Rattle.mv_core.specs.Calls.{IsKeptByJournal, shown_by}
use Rattle.mv_core.specs.Commits.{IsCommitRefusal, IsCommitted, IsCommittedSlot, IsOwn, IsRefusedFor, MayCommit, store_error}
use Rattle.mv_core.specs.Stores.{CallSlots, IsKeptStore, store_shown}
use Rattle.mv_core.specs.SeenStores.{Store}
use Rattle.mv_core.proofs.Attempts.{attempt_here}
use Rattle.mv_core.proofs.Calls.{live_in_journal, store_placed}
use Rattle.mv_core.proofs.Commits.{in_time_here, kept_committed, late_shown, none_foreign, unmoved}
use Rattle.mv_core.proofs.AllShards.{at_indexes}

-- what was taken from a slot is there again
pub put_back : {A : Type 0} (xs : List (Option A)) (i : ℕ) (o left d : Option A) (a b : A) → o ≡ d → d ≡ get_or xs i d → o ≡ Some a → b ≡ a → slice_set (slice_set xs i left) i (Some b) ≡ xs
put_back [] i o left d a b taken there is same = refl
put_back (x ∷ xs) zero o left d a b taken there is same = ap (λ y. y ∷ xs) (ap Some same ∙ sym is ∙ taken ∙ there)
put_back (x ∷ xs) (suc i) o left d a b taken there is same = ap (λ ys. x ∷ ys) (put_back xs i o left d a b taken there is same)

-- what was taken from a slot stood there
pub stood : {A : Type 0} (xs : List (Option A)) (i : ℕ) (o d : Option A) (a : A) → o ≡ d → d ≡ get_or xs i d → o ≡ Some a → IsSome (get_or xs i None) → get_or xs i None ≡ Some a
stood [] i o d a taken there is some = absurd cc
stood (x ∷ xs) zero o d a taken there is some = sym there ∙ sym taken ∙ is
stood (x ∷ xs) (suc i) o d a taken there is some = stood xs i o d a taken there is some

-- a store keeps its facts where its journal, shards and slots stay the same
pub same_parts : (j : Journal) (shard_slots : ShardSlots) (slots : CallSlots) (new : Journal) (new_shard_slots : ShardSlots) (new_slots : CallSlots) → new ≡ j → new_shard_slots ≡ shard_slots → new_slots ≡ slots → IsKeptByJournal j shard_slots slots → IsKeptByJournal new new_shard_slots new_slots
same_parts j shard_slots slots new new_shard_slots new_slots same_journal same_shard_slots same_slots k = subst (λ i. IsKeptByJournal i new_shard_slots new_slots) (sym same_journal) (subst (λ ps. IsKeptByJournal j ps new_slots) (sym same_shard_slots) (subst (λ ss. IsKeptByJournal j shard_slots ss) (sym same_slots) k))

-- what a commit makes of a store
pub record CommitsStore (s : Store) (new : Journal) (new_shard_slots : ShardSlots) (new_slots : CallSlots) (n t : ℕ) (f : CallRecord) : Type 0 where
  pub may : MayCommit s n t f
  pub kept : IsKeptByJournal new new_shard_slots new_slots
  pub committed : IsCommitted s (shown_by new new_shard_slots new_slots) n t f

module _ (j : Journal) (shard_slots : ShardSlots) (slots : CallSlots) (n t index : ℕ) (p : IsAttemptAt slots n t index) (k : IsKeptByJournal j shard_slots slots) (consistent : IsConsistentJournal j) (f : CallRecord) (fin : IsFinishedCall f) where
  abbrev a : CallAttempt
  a = p.attempt

  abbrev s : Store
  s = shown_by j shard_slots slots

  own_slot : get_or slots (n - 1) None ≡ Some a
  own_slot = ap (λ i. get_or slots i None) (sym p.is) ∙ p.found

  is_here : (HasLiveNumber j.world.live n a.timestamp) × (a.number ≡ n) × (attempt_at a.timestamp (live_in slots j.world.live) ≡ Some a)
  is_here = attempt_here slots j.world.live n a p.above p.within own_slot k.kept.attempts

  live_there : journal.IsLive j.world a
  live_there = live_in_journal j shard_slots slots n t index p k a p.found

  own_shown : IsOwnCall j.calls j.header a f → IsOwn s n a.timestamp f
  own_shown own = record { attempt = a; live = is_here.2; number = is_here.1; own = own }

  own_here : IsOwn s n t f → IsOwnCall j.calls j.header a f
  own_here own = subst (λ (b : CallAttempt). IsOwnCall j.calls j.header b f) (same_Some _ _ (sym own.live ∙ subst (λ u. attempt_at u (live_in slots j.world.live) ≡ Some a) p.time is_here.2)) own.own

  may_shown : parts.MayCommit j shard_slots a f → MayCommit s n a.timestamp f
  may_shown may = record {
    own = own_shown may.own;
    in_time = in_time_here j.base j.header j.calls j.world shard_slots slots k.kept n a p.above p.within own_slot k.agree f.writes may.write.in_time;
  }

  -- ---- refusals

  known_by : (error : Failure PartsFault) → parts.IsCommitRefusal j shard_slots a f error → IsSome (store_error error)
  known_by failure.Memory h = refl
  known_by (failure.Fault parts_fault.Unknown) h = absurd (h live_there)
  known_by (failure.Fault parts_fault.Stranger) h = refl
  known_by (failure.Fault (parts_fault.Moved x)) (live, own, moved) = absurd (never (sym (unmoved j.base j.header j.calls j.world shard_slots slots k.kept n a p.above p.within own_slot) ∙ moved))
    where
      never : None ≡ Some x → ⊥
      never e = cc
  known_by (failure.Fault (parts_fault.Foreign i)) (live, own, rest) = absurd (never (sym (none_foreign j.base j.header j.calls j.world shard_slots slots k.kept n a p.above p.within own_slot k.agree f.writes i) ∙ rest.1.foreign))
    where
      never : false ≡ true → ⊥
      never e = cc
  known_by (failure.Fault (parts_fault.Late x version mark)) h = refl

  -- each refusal by the journal and the shards is a refusal by the store
  pub error_known : (error : Failure PartsFault) → IsRefusedFor j shard_slots (get_or slots index None) f error → IsSome (store_error error)
  error_known error refused = known_by error (subst (λ o. IsRefusedFor j shard_slots o f error) p.found refused)

  refused_by : (error : Failure PartsFault) → parts.IsCommitRefusal j shard_slots a f error → (r : Failure CommitFault) → Some r ≡ store_error error → IsCommitRefusal s n t f r
  refused_by failure.Memory may r is = subst (IsCommitRefusal s n t f) (same_Some _ _ (sym is)) (subst (λ u. MayCommit s n u f) p.time (may_shown may))
  refused_by (failure.Fault parts_fault.Unknown) h r is = absurd cc
  refused_by (failure.Fault parts_fault.Stranger) (live, other) r is = subst (IsCommitRefusal s n t f) (same_Some _ _ (sym is)) (store_placed j shard_slots slots n t index p k, λ own. other (own_here own))
  refused_by (failure.Fault (parts_fault.Moved x)) h r is = absurd cc
  refused_by (failure.Fault (parts_fault.Foreign i)) h r is = absurd cc
  refused_by (failure.Fault (parts_fault.Late x version mark)) (live, own, rest) r is =
      subst (IsCommitRefusal s n t f) (same_Some _ _ (sym is))
      (subst (λ u. IsCommitRefusal s n u f (failure.Fault (fault.Late x version mark))) p.time
      (own_shown own, late_shown j.base j.header j.calls j.world shard_slots slots k.kept n a p.above p.within own_slot k.agree f.writes x version mark rest.2))

  pub store_refused : (error : Failure PartsFault) → IsRefusedFor j shard_slots (get_or slots index None) f error → (r : Failure CommitFault) → Some r ≡ store_error error → IsCommitRefusal s n t f r
  store_refused error refused r is = refused_by error (subst (λ o. IsRefusedFor j shard_slots o f error) p.found refused) r is

  -- ---- the commit

  -- a commit by the journal and the shards is a commit by the store
  pub store_committed : (new : Journal) (new_shard_slots : ShardSlots) (new_slots : CallSlots) (u : ℕ) → IsCommittedSlot j new shard_slots new_shard_slots slots new_slots index f u → CommitsStore s new new_shard_slots new_slots n t f
  store_committed new new_shard_slots new_slots u r =
      subst (λ v. CommitsStore s new new_shard_slots new_slots n v f) p.time
      (subst (λ ss. CommitsStore s new new_shard_slots ss n a.timestamp f) (sym (r.others ∙ ap (λ i. set slots i None) p.is))
      (subst (λ i. CommitsStore s i new_shard_slots (set slots (n - 1) None) n a.timestamp f) journal_is
      (record { may = may_shown may; kept = record { kept = h.0; agree = agree }; committed = h.1 })))
    where
      same : r.attempt ≡ a
      same = same_Some _ _ (sym r.found ∙ p.found)

      may : parts.MayCommit j shard_slots a f
      may = subst (λ (b : CallAttempt). parts.MayCommit j shard_slots b f) same r.may

      done : parts.IsCommitted j new shard_slots new_shard_slots a f
      done = subst (λ (b : CallAttempt). parts.IsCommitted j new shard_slots new_shard_slots b f) same r.committed

      same_entry : entry_of a.timestamp a.number f ≡ entry_of a.timestamp n f
      same_entry = ap (λ m. entry_of a.timestamp m f) is_here.1

      journal_is : record { base = j.base; header = j.header; calls = j.calls; world = after_commit j.world (entry_of a.timestamp n f) } ≡ new
      journal_is = λ i. record {
        base = sym done.base i;
        header = sym done.header i;
        calls = sym done.calls i;
        world = sym (done.world ∙ ap (after_commit j.world) same_entry) i;
      }

      h : IsKeptStore j.base j.header j.calls (after_commit j.world (entry_of a.timestamp n f)) new_shard_slots (set slots (n - 1) None)
          × IsCommitted s (store_shown j.base j.header j.calls (after_commit j.world (entry_of a.timestamp n f)) new_shard_slots (set slots (n - 1) None)) n a.timestamp f
      h = kept_committed j.base j.header j.calls j.world shard_slots slots k.kept n a p.above p.within own_slot f fin may.own (may_shown may).in_time new_shard_slots done.shards

      -- the shards agree with the new journal
      agree : AllAgree (record { base = j.base; header = j.header; calls = j.calls; world = after_commit j.world (entry_of a.timestamp n f) }) new_shard_slots
      agree i s is = subst (λ c. ShardAgrees c s) (sym journal_is) (by (get_or shard_slots i None) refl (subst (IsWrittenSlot i a.timestamp a.reads f.writes (get_or shard_slots i None)) is (done.shards i)))
        where
          by : (o : Option Shard) → get_or shard_slots i None ≡ o → IsWrittenSlot i a.timestamp a.reads f.writes o (Some s) → ShardAgrees new s
          by None here h = absurd h
          by (Some old) here h =
              let index : old.index ≡ i = at_indexes j.base j.world.low shard_slots k.kept.shards i old here in
              (every_commit_keeps_agreement j new shard_slots new_shard_slots a f consistent may done).held old s
              (subst (λ m. get_or shard_slots m None ≡ Some old) (sym index) here) (subst (λ m. get_or new_shard_slots m None ≡ Some s) (sym index) is) (k.agree i old here)
