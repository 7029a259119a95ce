-- The first read of an item, as a change of what is seen.
use Rattle.std.proofs.Common.{◌≡◌, ℕ, ◌<◌, ◌≤◌, None, List, Bool, true, false, cond, Some, refl, sym, ap, ◌∙◌, subst}
use Rattle.std.specs.Prelude.{if◌then◌else◌, IsSome}
use Rattle.std.specs.Ordering.{is_eq}
use Rattle.std.specs.Map.{lookup}
use Rattle.std.specs.BTreeMap.{is_at}
use Rattle.avm_ledger.specs.Ledgers.{Ledger}
use Rattle.avm_states.proofs.Maps.{same_map, sorted-inserted}
use Rattle.avm_items.specs.declared.item.Item.{Item}
use Rattle.avm_items.specs.declared.item_value.ItemValue.{ItemValue}
use Rattle.avm_items.specs.Items.{item_cmp, value_in, with_item}
use Rattle.avm_items.specs.LedgerItems.{at}
use Rattle.avm_items.proofs.Puts.{item_same, item_total}
use Rattle.mv_chain.specs.declared.chain.Version.{Version}
use Rattle.mv_chain.specs.Versions.{newest_at, oldest_timestamp, versions_read_at}
use Rattle.mv_shards.specs.Attempts.{CallAttempt}
use Rattle.mv_shards.specs.Chains.{versions_in, versions_or, with_versions}
use Rattle.mv_shards.specs.KeptChains.{AreChains, ChainMap, IsReadable, IsReadableAt, chain_in, is_untouched, list_or, number_in, one_marked, touched, versions_of}
use Rattle.mv_shards.specs.Shards.{IsFirstRead, IsReadAt, Shard}
use Rattle.mv_shards.specs.KeptShards.{IsMarkedRead}
use Rattle.mv_shards.proofs.Touched.{found_inserted, found_touched, marked_touched, sorted_touched, touched_or}
use Rattle.mv_shards.proofs.Numbers.{numbered_there}
use Rattle.mv_shards.proofs.OneChain.{some_of}

-- what is seen of a map has the versions of every item
pub versions_touched : {V : Type 0} (first : Item → V) (low : ℕ) (map : ChainMap V) → AreChains first low map → (y : Item) → versions_in first (touched map) y ≡ versions_of first map y
versions_touched {V} first low map k y = ap (versions_or (first y)) (found_touched first map k.once y) ∙ by (is_untouched (versions_of first map y)) refl
  where
    by : (u : Bool) → is_untouched (versions_of first map y) ≡ u → versions_or (first y) (if u then None else Some (versions_of first map y)) ≡ versions_of first map y
    by true e = sym (k.based y e)
    by false e = refl

-- one item whose versions are no longer untouched
pub touched_with : {V : Type 0} (first : Item → V) (low : ℕ) (map new : ChainMap V) (x : Item) (vs : List (Version V)) → AreChains first low map → AreChains first low new → is_untouched vs ≡ false
    → ((y : Item) → versions_of first new y ≡ (if is_eq (item_cmp y x) then vs else versions_of first map y)) → touched new ≡ with_versions (touched map) x vs
touched_with first low map new x vs k n stale alike =
    same_map item_total item_same (touched new) (with_versions (touched map) x vs) (sorted_touched new) (sorted-inserted item_total x vs (touched map) (sorted_touched map))
    (λ y. found_touched first new n.once y ∙ ap touched_or (alike y) ∙ by y (is_eq (item_cmp y x)) ∙ sym (found_inserted y x vs (touched map)))
  where
    by : (y : Item) (b : Bool) → touched_or (if b then vs else versions_of first map y) ≡ cond b (Some vs) (lookup (is_at (item_cmp y)) (touched map))
    by y true = ap (λ u. if u then None else Some vs) stale
    by y false = sym (found_touched first map k.once y)

-- what is seen of a shard with this index, low mark, base and chains
abbrev pub seen_as : ℕ → ℕ → Ledger → ChainMap ItemValue → Shard
seen_as index low base map = record { index = index; low = low; base = base; chains = touched map }

-- a first read that marks an item's versions is seen as the first read of a shard
pub first_read_seen : (index low : ℕ) (base : Ledger) (map new : ChainMap ItemValue) (before after : CallAttempt) (x : Item) (v : ItemValue) → 0 < before.timestamp → low ≤ before.timestamp → value_in before.reads x ≡ None
    → AreChains (at base) low map → AreChains (at base) low new
    → IsMarkedRead (at base) map new before after x v
    → IsFirstRead (seen_as index low base map) (seen_as index low base new) before after x v
first_read_seen index low base map new before after x v above in_time first k n read =
    let t = before.timestamp in
    let found = versions_touched (at base) low map k x in
    record {
      first = first;
      in_time = in_time;
      value = λ d. read.value d ∙ ap (λ vs. (newest_at t vs d).value) (sym found);
      joins = read.joins;
      marks = ap (λ cs. record { index = index; low = low; base = base; chains = cs })
          (touched_with (at base) low map new x (versions_read_at t (versions_of (at base) map x)) k n (marked_touched t (versions_of (at base) map x) above (k.chains x)) read.marked ∙ ap (λ vs. with_versions (touched map) x (versions_read_at t vs)) (sym found));
    }

-- so is a read at a timestamp, for each attempt there that has not read the item
pub read_seen : (index low t : ℕ) (base : Ledger) (map new : ChainMap ItemValue) (x : Item) (v : ItemValue) → 0 < t → low ≤ t → AreChains (at base) low map → AreChains (at base) low new
    → ((d : Version ItemValue) → v ≡ (newest_at t (versions_of (at base) map x) d).value) → ((y : Item) → versions_of (at base) new y ≡ one_marked t x (versions_of (at base) map) y)
    → IsReadAt t (seen_as index low base map) (seen_as index low base new) x v
read_seen index low t base map new x v above in_time k n value marked a at_t first =
    first_read_seen index low base map new a (record a { reads = with_item a.reads x v }) x v (subst (λ m. 0 < m) (sym at_t) above) (subst (λ m. low ≤ m) (sym at_t) in_time) first k n
    (record {
      value = λ d. value d ∙ ap (λ m. (newest_at m (versions_of (at base) map x) d).value) (sym at_t);
      marked = λ y. marked y ∙ ap (λ m. one_marked m x (versions_of (at base) map) y) (sym at_t);
      joins = refl;
    })

-- where what is seen of the chains stays the same, what is seen of the shard stays the same
pub refused_seen : (index low : ℕ) (base : Ledger) (map new : ChainMap ItemValue) → touched new ≡ touched map → seen_as index low base new ≡ seen_as index low base map
refused_seen index low base map new same = ap (λ cs. record { index = index; low = low; base = base; chains = cs }) same

-- an item that has a chain is readable where its versions go back far enough
pub readable_of : {V : Type 0} (first : Item → V) (t : ℕ) (map : ChainMap V) (x : Item) → oldest_timestamp (versions_of first map x) ≤ t → IsSome (chain_in map x) → IsReadable t map x
readable_of first t map x old there =
    let c = some_of (chain_in map x) there in
    record { chain = c.0; found = c.1; old_enough = subst (λ vs. oldest_timestamp vs ≤ t) (ap (list_or (first x)) c.1) old }

-- an item that was given a chain is readable as it was without one
pub numbered_readable : {V : Type 0} (first : Item → V) (t : ℕ) (map new : ChainMap V) (x : Item) (n : ℕ)
    → oldest_timestamp (versions_of first map x) ≤ t → versions_of first new x ≡ versions_of first map x
    → number_in new x ≡ Some n → IsReadableAt t new n
numbered_readable first t map new x n old same number = record {
  item = x;
  numbered = number;
  readable = readable_of first t new x (subst (λ vs. oldest_timestamp vs ≤ t) (sym same) old) (numbered_there new x n number);
}
