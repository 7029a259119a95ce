-- What is known of each shard that is held stays true of it.
use Rattle.std.proofs.Common.{◌≡◌, ◌≢◌, ℕ, ◌<◌, ◌==◌, ◌⊎◌, Bool, nat_lt, List, [], Option, None, Some, length, slice_index, set, get_or, replicate, max, refl, sym, ap, ◌∙◌, subst, arith, inl, inr}
use Rattle.std.specs.Prelude.{IfOk, OnErr, Result, Ok, Err}
use Rattle.std.proofs.Math.ListN.{length-set}
use Rattle.std.proofs.lemmas.List.{get_or-replicate, get_or-set_same, get_or-set_other, get_or_past, length-replicate}
use Rattle.avm_ledger.specs.declared.header.Header.{Header}
use Rattle.avm_ledger.specs.Ledgers.{Ledger}
use Rattle.avm_items.specs.declared.call_data.CallData.{CallData}
use Rattle.avm_items.specs.declared.item.Item.{Item}
use Rattle.avm_items.specs.declared.item_value.ItemValue.{ItemValue}
use Rattle.avm_items.specs.Items.{with_item}
use Rattle.mv_history.specs.World.{low_after_prune}
use Rattle.mv_history.proofs.Lists.{Compared, less, not_less, compared, Equals, equal, unequal, equals}
use Rattle.mv_shards.specs.Helds.{ArePruned, IsPrunedSlot, ShardSlots}
use Rattle.mv_shards.specs.Indexes.{shard_count}
use Rattle.mv_shards.specs.Shards.{IsPrunedShard, IsRaisedTo, IsReadAt, Shard}
use Rattle.mv_parts.specs.Agreeing.{AllAgree, EveryPruneKeepsAgreement, EveryReadKeepsAgreement, ShardAgrees}
use Rattle.mv_parts.specs.CallHistory.{CallAttempt, CallEntry}
use Rattle.mv_parts.specs.Journals.{Journal, first_journal}
use Rattle.avm_pool.specs.Logged.{AgreesAfter, AreBeginnings, AreCurrent, AreNoted, IsBeginning, IsCurrent, IsLast, IsLoggedJournal, IsNoted, Note, journal_after, raised_note}
use Rattle.avm_pool.proofs.Logs.{agrees_alike, agrees_journal, agrees_whole, journal_agrees}

-- what stands in a list after a write is what was written, or what stood there before
pub found_after_set : {X : Type 0} (xs : List (Option X)) (k i : ℕ) (v : Option X) (x : X) → get_or (set xs k v) i None ≡ Some x → ((i ≡ k) × (v ≡ Some x)) ⊎ ((i ≢ k) × (get_or xs i None ≡ Some x))
found_after_set xs k i v x here = by (i == k) (equals i k)
  where
    within : (b : Bool) → Compared k (length xs) b → i ≡ k → v ≡ Some x
    within b (less inside) same = sym (get_or-set_same xs k v None inside) ∙ subst (λ (n : ℕ). get_or (set xs k v) n None ≡ Some x) same here
    within b (not_less past) same =
        let none : get_or (set xs k v) i None ≡ None = get_or_past (set xs k v) i None (let size = length-set xs k v in omega (arith, size, past, same)) in
        absurd cc

    by : (b : Bool) → Equals i k b → ((i ≡ k) × (v ≡ Some x)) ⊎ ((i ≢ k) × (get_or xs i None ≡ Some x))
    by b (equal same) = inl (same, within (nat_lt k (length xs)) (compared k (length xs)) same)
    by b (unequal other) = inr (other, sym (get_or-set_other xs k i v None other) ∙ here)

abbrev nobody : Option Shard
nobody = None

all_free : (n i : ℕ) → get_or (replicate n nobody) i None ≡ None
all_free n i = by (nat_lt i n) (compared i n)
  where
    by : (b : Bool) → Compared i n b → get_or (replicate n nobody) i None ≡ None
    by b (less inside) = get_or-replicate n i nobody None inside
    by b (not_less past) = get_or_past (replicate n nobody) i None (let size = length-replicate n nobody in omega (arith, size, past))

-- what holds of the notes that there are holds past their end, where there is none
pub everywhere : (old new : List Note) (f : Note → Note) → f None ≡ None → length new ≡ length old → ((i : ℕ) → i < length old → get_or new i None ≡ f (get_or old i None)) → (i : ℕ) → get_or new i None ≡ f (get_or old i None)
everywhere old new f none count each i = by (nat_lt i (length old)) (compared i (length old))
  where
    by : (b : Bool) → Compared i (length old) b → get_or new i None ≡ f (get_or old i None)
    by b (less inside) = each i inside
    by b (not_less past) = get_or_past new i None (omega (arith, count, past)) ∙ sym (ap f (get_or_past old i None past) ∙ none)

-- those that are left agree still
pub agree_without : (j : Journal) (old new : ShardSlots) (k : ℕ) → new ≡ set old k None → AllAgree j old → AllAgree j new
agree_without j old new k is all i s here =
    elim (found_after_set old k i None s (subst (λ (slots : ShardSlots). get_or slots i None ≡ Some s) is here)) [
      | inl h ↦ absurd cc
      | inr h ↦ all i s h.1
    ]

-- what a shard at an index is noted with
pub record IsKnown (base : Ledger) (header : Header) (calls : List CallData) (i : ℕ) (s : Shard) (p : Note) : Type 0 where
  pub low : ℕ
  pub seen : List CallEntry
  pub noted : p ≡ Some (low, seen)
  pub index_is : s.index ≡ i
  pub low_is : low ≡ s.low
  pub agrees : AgreesAfter base header calls seen s

-- a shard that was pruned up to a mark
record IsRaised (base : Ledger) (header : Header) (calls : List CallData) (mark : ℕ) (log : List CallEntry) (old new : Shard) : Type 0 where
  pub index_is : new.index ≡ old.index
  pub low_is : max old.low mark ≡ new.low
  pub agrees : AgreesAfter base header calls log new

module _ (base : Ledger) (header : Header) (calls : List CallData) where
  pub known : (slots : ShardSlots) (notes : List Note) → AreNoted base header calls slots notes → (i : ℕ) (s : Shard) → get_or slots i None ≡ Some s → IsKnown base header calls i s (get_or notes i None)
  known slots notes all i s here = by (get_or notes i None) refl (subst (λ (o : Option Shard). IsNoted base header calls i o (get_or notes i None)) here (all.each i))
    where
      by : (p : Note) → get_or notes i None ≡ p → IsNoted base header calls i (Some s) p → IsKnown base header calls i s (get_or notes i None)
      by None is h = absurd h
      by (Some n) is h = record { low = n.0; seen = n.1; noted = is; index_is = h.0; low_is = h.1; agrees = h.2 }

  noted_as : (i : ℕ) (o : Option Shard) (p : Note) → ((s : Shard) → o ≡ Some s → IsKnown base header calls i s p) → IsNoted base header calls i o p
  noted_as i None p k = tt
  noted_as i (Some s) p k = let h = k s refl in subst (IsNoted base header calls i (Some s)) (sym h.noted) (h.index_is, h.low_is, h.agrees)

  pub all_noted : (slots : ShardSlots) (notes : List Note) → length notes ≡ shard_count → ((i : ℕ) (s : Shard) → get_or slots i None ≡ Some s → IsKnown base header calls i s (get_or notes i None)) → AreNoted base header calls slots notes
  all_noted slots notes count k = record { count = count; each = λ i. noted_as i (get_or slots i None) (get_or notes i None) (k i) }

  -- no shard is held
  pub none_noted : (slots : ShardSlots) (notes : List Note) → slots ≡ replicate shard_count None → length notes ≡ shard_count → AreNoted base header calls slots notes
  none_noted slots notes none count =
      all_noted slots notes count
      (λ i s here. let free : get_or slots i None ≡ None = ap (λ (l : ShardSlots). get_or l i None) none ∙ all_free shard_count i in absurd cc)

  -- one more shard is held
  pub noted_with : (slots : ShardSlots) (notes : List Note) (s : Shard) (n : ℕ × List CallEntry) → AreNoted base header calls slots notes → s.index < shard_count → n.0 ≡ s.low → AgreesAfter base header calls n.1 s
      → AreNoted base header calls (set slots s.index (Some s)) (set notes s.index (Some n))
  noted_with slots notes s n all within low agrees =
      all_noted (set slots s.index (Some s)) (set notes s.index (Some n)) (length-set notes s.index (Some n) ∙ all.count)
      (λ i t here. elim (found_after_set slots s.index i (Some s) t here) [
        | inl h ↦
            let same : s ≡ t = cc (h.1) in
            let there : get_or (set notes s.index (Some n)) i None ≡ Some n = subst (λ (k : ℕ). get_or (set notes s.index (Some n)) k None ≡ Some n) (sym h.0) (get_or-set_same notes s.index (Some n) None (let c = all.count in omega (arith, c, within))) in
            subst (λ (u : Shard). IsKnown base header calls i u (get_or (set notes s.index (Some n)) i None)) same
            (record { low = n.0; seen = n.1; noted = there; index_is = sym h.0; low_is = low; agrees = agrees })
        | inr h ↦
            let old = known slots notes all i t h.1 in
            subst (IsKnown base header calls i t) (sym (get_or-set_other notes s.index i (Some n) None h.0)) old
      ])

  -- one is given back
  pub noted_without : (slots : ShardSlots) (notes : List Note) (k : ℕ) → AreNoted base header calls slots notes → AreNoted base header calls (set slots k None) (set notes k None)
  noted_without slots notes k all =
      all_noted (set slots k None) (set notes k None) (length-set notes k None ∙ all.count)
      (λ i t here. elim (found_after_set slots k i None t here) [
        | inl h ↦ absurd cc
        | inr h ↦
            let old = known slots notes all i t h.1 in
            subst (IsKnown base header calls i t) (sym (get_or-set_other notes k i None None h.0)) old
      ])

  -- ---- what agrees

  -- a shard of which no commit since has read or written an item, and that has the journal's low mark, agrees with it
  pub current_agree : (j : Journal) (log : List CallEntry) (room : ℕ) (last : List ℕ) (slots : ShardSlots) (notes : List Note) → IsLoggedJournal base header calls j log room last → AreNoted base header calls slots notes
      → AreCurrent j.world.low last notes → AreBeginnings log notes → AllAgree j slots
  current_agree j log room last slots notes kept all current begins i s here = by (nat_lt i (length notes)) (compared i (length notes))
    where
      k : IsKnown base header calls i s (get_or notes i None)
      k = known slots notes all i s here

      at : i < length notes → ShardAgrees j s
      at inside =
          let now : IsCurrent j.world.low (slice_index last i) (Some (k.low, k.seen)) = subst (IsCurrent j.world.low (slice_index last i)) k.noted (current i inside) in
          let begun : IsBeginning log (Some (k.low, k.seen)) = subst (IsBeginning log) k.noted (begins i inside) in
          let own = kept.each_last i (let count = all.count in omega (arith, count, inside)) in
          let size = now.1 in
          let few = own.within in
          let prefix = begun (omega (arith, size, few)) in
          agrees_journal base header calls j log s kept.over kept.ordered (sym k.low_is ∙ now.0)
          (agrees_whole base header calls k.seen log (slice_index last i) s prefix now.1 (subst (λ n. IsLast n (slice_index last i) log) (sym k.index_is) own) k.agrees)

      by : (b : Bool) → Compared i (length notes) b → ShardAgrees j s
      by b (less inside) = at inside
      by b (not_less past) = let none = get_or_past notes i None past in let there = k.noted in absurd cc

  -- where no call is committed, a shard that agrees with the journal agrees with the log that has no entry
  pub first_agrees : (seen : List CallEntry) (s : Shard) → seen ≡ [] → ShardAgrees (first_journal base header calls) s → AgreesAfter base header calls seen s
  first_agrees seen s none a =
      subst (λ (log : List CallEntry). AgreesAfter base header calls log s) (sym none)
      (journal_agrees base header calls (first_journal base header calls) [] s (record { base_is = refl; header_is = refl; calls_are = refl }) refl a)

  -- ---- a read

  -- it is the first read of an attempt that has read nothing
  pub read_keeps : {E : Type 0} (log : List CallEntry) (old new : Shard) (t : ℕ) (x : Item) (r : Result ItemValue E) → EveryReadKeepsAgreement
      → IfOk r (IsReadAt t old new x) → OnErr r (new ≡ old) → AgreesAfter base header calls log old → AgreesAfter base header calls log new
  read_keeps log old new t x (Ok v) law done same a =
      let none : CallAttempt = record { number = 0; timestamp = t; reads = [] } in
      let k = law (journal_after base header calls old.low log) old new none (record none { reads = with_item [] x v }) x v (inl (done none refl refl)) a in
      subst (λ (n : ℕ). ShardAgrees (journal_after base header calls n log) new) (sym k.low) k
  read_keeps log old new t x (Err e) law done same a = subst (AgreesAfter base header calls log) (sym same) a

  -- ---- a prune

  -- the journal of a log, at its low mark, which may be raised to a mark
  abbrev clocked : ℕ → List CallEntry → ℕ → Journal
  clocked low log mark = record (journal_after base header calls low log) { world = record (journal_after base header calls low log).world { clock = mark } }

  prune_keeps : (log : List CallEntry) (old new : Shard) (mark : ℕ) → EveryPruneKeepsAgreement → IsPrunedShard mark old new → AgreesAfter base header calls log old → IsRaised base header calls mark log old new
  prune_keeps log old new mark law pruned a = by (nat_lt mark old.low) (compared mark old.low)
    where
      by : (b : Bool) → Compared mark old.low b → IsRaised base header calls mark log old new
      by b (less below) =
          let same : new ≡ old = pruned.stays below in
          let low : new.low ≡ old.low = ap (λ (s : Shard). s.low) same in
          record { index_is = ap (λ (s : Shard). s.index) same; low_is = omega (arith, below, low); agrees = subst (AgreesAfter base header calls log) (sym same) a }
      by b (not_less from) =
          let raised : IsRaisedTo mark old new = pruned.raised from in
          let j = clocked old.low log mark in
          let higher : low_after_prune j.world mark ≡ mark = omega (arith, from) in
          let own : ShardAgrees j old = record { base = a.base; low = a.low; versions = a.versions; marks = a.marks } in
          let k = law j old new mark (subst (λ (n : ℕ). IsPrunedShard n old new) (sym higher) pruned) own in
          let low : new.low ≡ mark = raised.low in
          record {
            index_is = raised.index;
            low_is = omega (arith, from, low);
            agrees = agrees_alike (record j { world = record (j.world) { low = low_after_prune j.world mark } }) (journal_after base header calls new.low log) new refl (low ∙ sym higher) refl k;
          }

  pub pruned_noted : (old new : ShardSlots) (notes raised : List Note) (mark : ℕ) → EveryPruneKeepsAgreement → ArePruned mark old new → length raised ≡ length notes → ((i : ℕ) → i < length notes → get_or raised i None ≡ raised_note mark (get_or notes i None))
      → AreNoted base header calls old notes → AreNoted base header calls new raised
  pruned_noted old new notes raised mark law pruned count each all =
      all_noted new raised (count ∙ all.count) (λ i t here. by i t (get_or old i None) refl (subst (IsPrunedSlot mark (get_or old i None)) here (pruned i)))
    where
      by : (i : ℕ) (t : Shard) (o : Option Shard) → get_or old i None ≡ o → IsPrunedSlot mark o (Some t) → IsKnown base header calls i t (get_or raised i None)
      by i t None is h = absurd h
      by i t (Some s) is h =
          let k = known old notes all i s is in
          let p = prune_keeps k.seen s t mark law h k.agrees in
          record { low = max k.low mark; seen = k.seen; noted = everywhere notes raised (raised_note mark) refl count each i ∙ ap (raised_note mark) k.noted; index_is = p.index_is ∙ k.index_is; low_is = ap (λ (n : ℕ). max n mark) k.low_is ∙ p.low_is; agrees = p.agrees }
