-- What a commit leaves of the journal and of the shards that are held, where these agree with it.
use Rattle.std.proofs.Common.{◌≡◌, ◌≢◌, ℕ, ◌+◌, ◌<◌, ◌≤◌, List, [], ◌∷◌, ◌++◌, Option, None, Some, if◌then◌else◌, is_some, length, drop, slice_index, get_or, refl, sym, ap, ◌∙◌, subst, arith, length-append}
use Rattle.std.specs.Prelude.{IsSome}
use Rattle.std.specs.List.{AllByRecursion}
use Rattle.std.proofs.lemmas.List.{drop-append-le}
use Rattle.std.proofs.Math.Seq.{drop-length}
use Rattle.avm_ledger.specs.declared.header.Header.{Header}
use Rattle.avm_ledger.specs.Ledgers.{Ledger}
use Rattle.avm_items.specs.declared.call_data.CallData.{CallData}
use Rattle.avm_items.specs.Items.{ItemMap}
use Rattle.avm_run.specs.Results.{CallRecord}
use Rattle.mv_history.specs.History.{entries_with}
use Rattle.mv_history.proofs.Lists.{all_map, all_push}
use Rattle.mv_shards.specs.Helds.{AreHeld, ShardSlots}
use Rattle.mv_shards.specs.Indexes.{shard_of}
use Rattle.mv_shards.specs.Shards.{Shard}
use Rattle.mv_shards.specs.Writing.{IsWrittenSlot}
use Rattle.mv_parts.specs.Agreeing.{AllAgree, CommitKeepsAgreement, ShardAgrees}
use Rattle.mv_parts.specs.CallHistory.{CallAttempt, CallEntry}
use Rattle.mv_parts.specs.CallLaws.{entry_of}
use Rattle.mv_parts.specs.Commits.{AreCovered, IsCommitted}
use Rattle.mv_parts.specs.Journals.{Journal}
use Rattle.avm_pool.specs.Logged.{AreNoted, IsApart, IsJournalOver, IsLast, IsLoggedJournal, Note, in_order, note_of}
use Rattle.avm_pool.proofs.Logs.{in_order-push, journal_agrees, length-in_order}
use Rattle.avm_pool.proofs.Noted.{IsKnown, all_noted, known}

-- items of shards that are held are none of a shard that is not
held_apart : (slots : ShardSlots) (items : ItemMap) (i : ℕ) → get_or slots i None ≡ None → AreHeld slots items → AllByRecursion (λ e. shard_of e.0 ≢ i) items
held_apart slots items i none held =
    all_map (λ e. IsSome (get_or slots (shard_of e.0) None)) (λ e. shard_of e.0 ≢ i) items
    (λ e there same. empty (get_or slots i None) none (subst (λ n. IsSome (get_or slots n None)) same there)) held
  where
    empty : (o : Option Shard) → o ≡ None → IsSome o → ⊥
    empty None is there = absurd cc
    empty (Some s) is there = absurd cc

last_push : (index number : ℕ) (log : List CallEntry) (e : CallEntry) → IsApart index e → IsLast index number log → IsLast index number (log ++ e ∷ [])
last_push index number log e apart last = record {
  within = let size = length-append log (e ∷ []) in let few = last.within in omega (arith, size, few);
  apart = subst (AllByRecursion (IsApart index)) (sym (drop-append-le number log (e ∷ []) last.within)) (all_push (IsApart index) (drop number log) e last.apart apart);
}

last_whole : (index : ℕ) (log : List CallEntry) → IsLast index (length log) log
last_whole index log = record { within = omega arith; apart = subst (AllByRecursion (IsApart index)) (sym (drop-length log)) tt }

module _ (base : Ledger) (header : Header) (calls : List CallData) (old new : Journal) (before after : ShardSlots) (notes : List Note) (log : List CallEntry) (a : CallAttempt) (f : CallRecord) (reads : f.reads ≡ a.reads) (covered : AreCovered before a.reads f.writes)
    (done : IsCommitted old new before after a f) (over : IsJournalOver base header calls old) (ordered : old.world.entries ≡ in_order log) (all : AreNoted base header calls before notes) where
  abbrev e : CallEntry
  e = entry_of a.timestamp a.number f

  abbrev whole : List CallEntry
  whole = log ++ e ∷ []

  still_over : IsJournalOver base header calls new
  still_over = record { base_is = done.base ∙ over.base_is; header_is = done.header ∙ over.header_is; calls_are = done.calls ∙ over.calls_are }

  entries_new : new.world.entries ≡ in_order whole
  entries_new = ap (λ w. w.entries) done.world ∙ ap (entries_with e) ordered ∙ sym (in_order-push log e)

  -- there was room for the entry
  pub had_room : (room : ℕ) → length new.world.entries ≤ length new.calls → length calls ≤ length log + room → 0 < room
  had_room room few enough =
      let count : length new.world.entries ≡ length whole = ap length entries_new ∙ length-in_order whole in
      let size = length-append log (e ∷ []) in
      let same : length new.calls ≡ length calls = ap length still_over.calls_are in
      omega (arith, count, size, same, few, enough)

  -- the shards that are held agree with the new journal, and so with the whole log
  pub committed_noted : (notes' : List Note) → AllAgree old before → CommitKeepsAgreement old new before after a f → length notes' ≡ length notes → ((i : ℕ) → get_or notes' i None ≡ note_of whole (get_or notes i None))
      → AreNoted base header calls after notes'
  committed_noted notes' agree keeps count each =
      all_noted base header calls after notes' (count ∙ all.count)
      (λ i t there. by i t there (get_or before i None) refl (subst (IsWrittenSlot i a.timestamp a.reads f.writes (get_or before i None)) there (done.shards i)))
    where
      by : (i : ℕ) (t : Shard) → get_or after i None ≡ Some t → (o : Option Shard) → get_or before i None ≡ o → IsWrittenSlot i a.timestamp a.reads f.writes o (Some t) → IsKnown base header calls i t (get_or notes' i None)
      by i t there None is h = absurd h
      by i t there (Some s) is h =
          let k = known base header calls before notes all i s is in
          let agrees : ShardAgrees new t = keeps.held s t (subst (λ n. get_or before n None ≡ Some s) (sym k.index_is) is) (subst (λ n. get_or after n None ≡ Some t) (sym k.index_is) there) (agree i s is) in
          record {
            low = k.low;
            seen = whole;
            noted = each i ∙ ap (note_of whole) k.noted;
            index_is = h.index_stays ∙ k.index_is;
            low_is = k.low_is ∙ sym h.low_stays;
            agrees = journal_agrees base header calls new whole t still_over entries_new agrees;
          }

  -- a shard that is not noted is not held, and the entry has no part in it
  apart_by : (i : ℕ) → get_or notes i None ≡ None → IsApart i e
  apart_by i none = by (get_or before i None) refl
    where
      by : (o : Option Shard) → get_or before i None ≡ o → IsApart i e
      by None is = (subst (AllByRecursion (λ read. shard_of read.0 ≢ i)) (sym reads) (held_apart before a.reads i is covered.reads_held), held_apart before f.writes i is covered.writes_held)
      by (Some s) is = let k = known base header calls before notes all i s is in let there = k.noted in absurd cc

  last_after : (last : List ℕ) (i n : ℕ) (p : Note) → get_or notes i None ≡ p → n ≡ (if is_some (note_of whole p) then length whole else slice_index last i) → IsLast i (slice_index last i) log → IsLast i n whole
  last_after last i n None is number was = subst (λ k. IsLast i k whole) (sym number) (last_push i (slice_index last i) log e (apart_by i is) was)
  last_after last i n (Some q) is number was = subst (λ k. IsLast i k whole) (sym number) (last_whole i whole)

  pub committed_journal : (notes' : List Note) (last last' : List ℕ) (room room' : ℕ) → ((i : ℕ) → get_or notes' i None ≡ note_of whole (get_or notes i None)) → IsLoggedJournal base header calls old log room last → room' + 1 ≡ room → length last' ≡ length last
      → ((i : ℕ) → i < length last → slice_index last' i ≡ (if is_some (get_or notes' i None) then length whole else slice_index last i)) → IsLoggedJournal base header calls new whole room' last'
  committed_journal notes' last last' room room' noted kept more count each = record {
    over = still_over;
    ordered = entries_new;
    has_room = let size = length-append log (e ∷ []) in let enough = kept.has_room in omega (arith, size, more, enough);
    count = count ∙ kept.count;
    each_last = λ i within.
        let inside : i < length last = let c = kept.count in omega (arith, c, within) in
        let number = subst (λ p. slice_index last' i ≡ (if is_some p then length whole else slice_index last i)) (noted i) (each i inside) in
        last_after last i (slice_index last' i) (get_or notes i None) refl number (kept.each_last i within);
  }
