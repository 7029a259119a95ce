-- What an entry that reads and writes no item of a shard leaves: the shard's agreement.
use Rattle.std.proofs.Common.{◌≡◌, ◌≢◌, ℕ, suc, ◌+◌, Bool, true, false, nat_lt, if◌then◌else◌, List, [], ◌∷◌, ◌++◌, None, Some, drop, length, refl, sym, ap, ◌∙◌, subst, arith, inl, inr, append-nil, append_assoc}
use Rattle.std.specs.Map.{lookup}
use Rattle.std.specs.List.{AllByRecursion}
use Rattle.std.proofs.Math.Seq.{drop-append_seam}
use mathlib.Core.List.{IsPrefix}
use Rattle.avm_ledger.specs.declared.header.Header.{Header}
use Rattle.avm_ledger.specs.Ledgers.{Ledger}
use Rattle.avm_items.specs.declared.call_data.CallData.{CallData}
use Rattle.avm_items.specs.declared.item.Item.{Item}
use Rattle.avm_items.specs.declared.item_value.ItemValue.{ItemValue}
use Rattle.avm_items.specs.Items.{ItemMap}
use Rattle.avm_items.specs.LedgerItems.{at}
use Rattle.mv_history.specs.History.{entries_with, version_below}
use Rattle.mv_history.specs.World.{first_world}
use Rattle.mv_history.proofs.Lists.{all_map}
use Rattle.mv_history.proofs.Versions.{all_with, newest_version-entries_with}
use Rattle.mv_chain.specs.Agreement.{HoldsVersions, IsVersionFound}
use Rattle.mv_chain.specs.Versions.{newest_at}
use Rattle.mv_shards.specs.Indexes.{shard_of}
use Rattle.mv_shards.specs.Shards.{Shard, versions_held}
use Rattle.mv_parts.specs.Agreeing.{AreMarkedIn, IsMarkedFor, IsVersionHeld, ShardAgrees}
use Rattle.mv_parts.specs.CallHistory.{CallEntry, same_item}
use Rattle.mv_parts.specs.Journals.{Journal, first_journal, version_read}
use Rattle.mv_parts.proofs.SerialCalls.{items_have_an_equality}
use Rattle.avm_pool.specs.Logged.{AgreesAfter, IsApart, IsJournalOver, IsLast, in_order, in_order_after, journal_after}

-- ---- the entries of a log by timestamp

in_order_after-push : (es log : List CallEntry) (e : CallEntry) → in_order_after es (log ++ e ∷ []) ≡ entries_with e (in_order_after es log)
in_order_after-push es [] e = refl
in_order_after-push es (f ∷ log) e = in_order_after-push (entries_with f es) log e

pub in_order-push : (log : List CallEntry) (e : CallEntry) → in_order (log ++ e ∷ []) ≡ entries_with e (in_order log)
in_order-push log e = in_order_after-push [] log e

length-with : (e : CallEntry) (es : List CallEntry) → length (entries_with e es) ≡ suc (length es)
length-with e [] = refl
length-with e (f ∷ es) = by (nat_lt e.timestamp f.timestamp) (length-with e es)
  where
    by : (b : Bool) → length (entries_with e es) ≡ suc (length es) → length (if b then e ∷ f ∷ es else f ∷ entries_with e es) ≡ suc (suc (length es))
    by true rest = refl
    by false rest = ap suc rest

length-in_order_after : (es log : List CallEntry) → length (in_order_after es log) ≡ length es + length log
length-in_order_after es [] = omega arith
length-in_order_after es (e ∷ log) = let rest = length-in_order_after (entries_with e es) log in let more = length-with e es in omega (arith, rest, more)

pub length-in_order : (log : List CallEntry) → length (in_order log) ≡ length log
length-in_order log = let all = length-in_order_after [] log in omega (arith, all)

-- ---- agreement looks at the base, the low mark and the entries alone

pub agrees_alike : (j k : Journal) (s : Shard) → k.base ≡ j.base → k.world.low ≡ j.world.low → k.world.entries ≡ j.world.entries → ShardAgrees j s → ShardAgrees k s
agrees_alike j k s base low entries a = record {
  base = a.base ∙ sym base;
  low = a.low ∙ sym low;
  versions = λ x own. rw (base, low, entries) (a.versions x own);
  marks = rw (base, entries) a.marks;
}

module _ (base : Ledger) (header : Header) (calls : List CallData) where
  -- a shard that agrees with a beginning of the log that is the whole, and has the low mark, agrees with the journal
  pub agrees_journal : (j : Journal) (log : List CallEntry) (s : Shard) → IsJournalOver base header calls j → j.world.entries ≡ in_order log → s.low ≡ j.world.low → AgreesAfter base header calls log s → ShardAgrees j s
  agrees_journal j log s over ordered low a = agrees_alike (journal_after base header calls s.low log) j s over.base_is (sym low) ordered a

  -- and the other way round
  pub journal_agrees : (j : Journal) (log : List CallEntry) (s : Shard) → IsJournalOver base header calls j → j.world.entries ≡ in_order log → ShardAgrees j s → AgreesAfter base header calls log s
  journal_agrees j log s over ordered a = agrees_alike j (journal_after base header calls s.low log) s (sym over.base_is) a.low (sym ordered) a

-- ---- one more entry

-- the entry does not write an item of the shard
unwritten : (index : ℕ) (x : Item) (items : ItemMap) → shard_of x ≡ index → AllByRecursion (λ e. shard_of e.0 ≢ index) items → lookup (same_item x) items ≡ None
unwritten index x [] own apart = refl
unwritten index x (e ∷ es) own apart = by (same_item x e.0) refl (unwritten index x es own apart.1)
  where
    by : (b : Bool) → same_item x e.0 ≡ b → lookup (same_item x) es ≡ None → (if b then Some e.1 else lookup (same_item x) es) ≡ None
    by true same rest = absurd (apart.0 (subst (λ y. shard_of y ≡ index) (items_have_an_equality.exact x e.0 same) own))
    by false other rest = rest

module _ (base : Ledger) (header : Header) (calls : List CallData) (log : List CallEntry) (e : CallEntry) (s : Shard) (apart : IsApart s.index e) (a : AgreesAfter base header calls log s) where
  abbrev es : List CallEntry
  es = in_order log

  -- so no version of the item changes
  stays : (t : ℕ) (x : Item) → shard_of x ≡ s.index → version_below same_item (at base) (entries_with e es) t x ≡ version_below same_item (at base) es t x
  stays t x own = newest_version-entries_with same_item e t es x (0, at base x) (omega arith) (inr (inl (unwritten s.index x e.writes own apart.1)))

  holds_more : (x : Item) → shard_of x ≡ s.index → HoldsVersions (λ value. value) same_item (at base) s.low (entries_with e es) x (versions_held s x)
  holds_more x own = record {
    chain = (a.versions x own).chain;
    old_enough = (a.versions x own).old_enough;
    found = λ t d from. subst (IsVersionFound (λ value. value) (newest_at t (versions_held s x) d)) (sym (stays (suc t) x own)) ((a.versions x own).found t d from);
    held = all_map (λ v. IsVersionFound (λ value. value) v (version_below same_item (at base) es (suc v.timestamp) x)) _ (versions_held s x)
        (λ v found. subst (IsVersionFound (λ value. value) v) (sym (stays (suc v.timestamp) x own)) found)
        (a.versions x own).held;
  }

  marked_more : (f : CallEntry) → AreMarkedIn base es s f → AreMarkedIn base (entries_with e es) s f
  marked_more f marked =
      all_map (λ read. shard_of read.0 ≡ s.index → IsVersionHeld s read.0 (version_read base es f read.0) → IsMarkedFor s f read.0 (version_read base es f read.0)) _ f.reads
      (λ read was own. subst (λ version. IsVersionHeld s read.0 version → IsMarkedFor s f read.0 version) (sym (ap (λ (v : ℕ × ItemValue). v.0) (stays f.timestamp read.0 own))) (was own))
      marked

  marked_own : AreMarkedIn base (entries_with e es) s e
  marked_own = all_map (λ read. shard_of read.0 ≢ s.index) _ e.reads (λ read other own. absurd (other own)) apart.0

  abbrev more : Journal
  more = record (first_journal base header calls) { world = record first_world { low = s.low; entries = entries_with e es } }

  agrees_with : ShardAgrees more s
  agrees_with = record {
    base = a.base;
    low = refl;
    versions = holds_more;
    marks = all_with same_item (AreMarkedIn base (entries_with e es) s) e es marked_own (all_map (AreMarkedIn base es s) _ es marked_more a.marks);
  }

  agrees_more : AgreesAfter base header calls (log ++ e ∷ []) s
  agrees_more = agrees_alike more (journal_after base header calls s.low (log ++ e ∷ [])) s refl refl (in_order-push log e) agrees_with

-- ---- the rest of a log

module _ (base : Ledger) (header : Header) (calls : List CallData) where
  agrees_along : (log more : List CallEntry) (s : Shard) → AllByRecursion (IsApart s.index) more → AgreesAfter base header calls log s → AgreesAfter base header calls (log ++ more) s
  agrees_along log [] s apart a = subst (λ (l : List CallEntry). AgreesAfter base header calls l s) (sym (append-nil log)) a
  agrees_along log (e ∷ more) s apart a =
      subst (λ (l : List CallEntry). AgreesAfter base header calls l s) (append_assoc log (e ∷ []) more)
      (agrees_along (log ++ e ∷ []) more s apart.1 (agrees_more base header calls log e s apart.0 a))

  -- a shard that agrees with a beginning, from which on no entry reads or writes an item of it, agrees with the whole
  pub agrees_whole : (seen log : List CallEntry) (number : ℕ) (s : Shard) → IsPrefix seen log → length seen ≡ number → IsLast s.index number log → AgreesAfter base header calls seen s → AgreesAfter base header calls log s
  agrees_whole seen log number s begins count last a =
      let rest : drop number log ≡ begins.0 = ap (λ (n : ℕ). drop n log) (sym count) ∙ ap (drop (length seen)) (sym begins.1) ∙ drop-append_seam seen begins.0 in
      subst (λ (l : List CallEntry). AgreesAfter base header calls l s) begins.1
      (agrees_along seen begins.0 s (subst (AllByRecursion (IsApart s.index)) rest last.apart) a)
