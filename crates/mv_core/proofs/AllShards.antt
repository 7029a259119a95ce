-- What holds of all shards, held together.
use Rattle.std.proofs.Common.{◌≡◌, ℕ, ◌==◌, Bool, true, false, nat_lt, if◌then◌else◌, List, Option, None, Some, get_or, refl, sym, ap, ◌∙◌, subst, arith}
use Rattle.std.specs.Prelude.{IsSome}
use Rattle.avm_ledger.specs.Ledgers.{Ledger}
use Rattle.avm_items.specs.declared.item.Item.{Item}
use Rattle.avm_items.specs.declared.item_value.ItemValue.{ItemValue}
use Rattle.avm_items.specs.Items.{ItemMap}
use Rattle.avm_items.specs.LedgerItems.{at}
use Rattle.mv_chain.specs.declared.chain.Version.{Version}
use Rattle.mv_chain.specs.Stores.{marks_of}
use Rattle.mv_chain.specs.Versions.{mark_in}
use Rattle.mv_history.proofs.Lists.{Compared, less, not_less, compared, Equals, equal, unequal, equals}
use Rattle.mv_shards.specs.Chains.{first_version}
use Rattle.mv_shards.specs.Helds.{AreAtIndexes, IsHeld, ShardSlots, shard_for}
use Rattle.mv_shards.specs.Indexes.{shard_count, shard_of}
use Rattle.mv_shards.specs.Shards.{Shard}
use Rattle.mv_shards.specs.Writing.{AreWritten, IsWrittenSlot, committed_versions, versions_for, versions_or_none}
use Rattle.mv_parts.specs.Opening.{first_slots}
use Rattle.mv_parts.proofs.Opens.{index_within, none_beyond, slot_first}
use Rattle.mv_core.specs.AllShards.{AreAllOver, IsShardOver}

-- where all shards are there, those of all items are held
pub held_all : (base : Ledger) (low : ℕ) (shard_slots : ShardSlots) → AreAllOver base low shard_slots → (x : Item) → IsHeld shard_slots x
held_all base low shard_slots over x = by (shard_for shard_slots x) (over.each (shard_of x) (index_within x))
  where
    by : (o : Option Shard) → IsShardOver base low (shard_of x) o → IsSome o
    by None h = absurd h
    by (Some s) h = refl

-- what a commit makes of an item's versions
own_versions : (b : Bool) (n : ℕ) (vs ws : List (Version ItemValue)) → Equals n n b → (if b then vs else ws) ≡ vs
own_versions b n vs ws (equal k) = refl
own_versions b n vs ws (unequal k) = absurd (k refl)

-- an item of a held shard has the versions that the commit makes of its old ones
pub versions_written : (t : ℕ) (reads writes : ItemMap) (old new : ShardSlots) → AreWritten t reads writes old new → (x : Item) → IsHeld old x
    → versions_for new x ≡ committed_versions t reads writes x (versions_for old x)
versions_written t reads writes old new w x held = by (shard_for old x) (shard_for new x) (w (shard_of x)) held
  where
    by : (o p : Option Shard) → IsWrittenSlot (shard_of x) t reads writes o p → IsSome o → versions_or_none p x ≡ committed_versions t reads writes x (versions_or_none o x)
    by None p h there = absurd cc
    by (Some s) None h there = absurd h
    by (Some s) (Some r) h there = h.versions x ∙ own_versions (shard_of x == shard_of x) (shard_of x) _ _ (equals (shard_of x) (shard_of x))

-- a commit leaves all shards over the same ledger, with the same low mark
pub over_written : (base : Ledger) (low t : ℕ) (reads writes : ItemMap) (old new : ShardSlots) → AreWritten t reads writes old new → AreAllOver base low old → AreAllOver base low new
over_written base low t reads writes old new w over = record {
  beyond = λ i above. none (get_or old i None) (get_or new i None) i (w i) (over.beyond i above);
  each = λ i h. by i (get_or old i None) (get_or new i None) (w i) (over.each i h);
}
  where
    none : (o p : Option Shard) (i : ℕ) → IsWrittenSlot i t reads writes o p → o ≡ None → p ≡ None
    none None None i h e = refl
    none None (Some r) i h e = absurd h
    none (Some s) p i h e = absurd cc

    by : (i : ℕ) (o p : Option Shard) → IsWrittenSlot i t reads writes o p → IsShardOver base low i o → IsShardOver base low i p
    by i None p h k = absurd k
    by i (Some s) None h k = absurd h
    by i (Some s) (Some r) h k = (h.index_stays ∙ k.0, h.low_stays ∙ k.1, h.base_stays ∙ k.2)

-- each stands at its index
pub at_indexes : (base : Ledger) (low : ℕ) (shard_slots : ShardSlots) → AreAllOver base low shard_slots → AreAtIndexes shard_slots
at_indexes base low shard_slots over i s here = by (nat_lt i shard_count) (compared i shard_count)
  where
    by : (b : Bool) → Compared i shard_count b → s.index ≡ i
    by b (less inside) = (subst (IsShardOver base low i) here (over.each i inside)).0
    by b (not_less above) = let none : get_or shard_slots i None ≡ None = over.beyond i (omega (arith, above)) in absurd cc

-- ---- the first shards

-- at first each item has only the version of the ledger
pub versions_first : (base : Ledger) (x : Item) → versions_for (first_slots base) x ≡ first_version (at base x)
versions_first base x = ap (λ o. versions_or_none o x) (slot_first base (shard_of x) (index_within x))

-- at first no version has a read mark
pub no_marks : (base : Ledger) (x : Item) (version : ℕ) → marks_of (versions_for (first_slots base)) x version ≡ 0
no_marks base x version = ap (mark_in version) (versions_first base x) ∙ by (0 == version)
  where
    zero_of : ℕ
    zero_of = 0

    by : (b : Bool) → (if b then zero_of else zero_of) ≡ zero_of
    by true = refl
    by false = refl

-- the first shards are all there, over the ledger and with the low mark 0
pub first_over : (base : Ledger) → AreAllOver base 0 (first_slots base)
first_over base = record {
  beyond = none_beyond base;
  each = λ i inside. subst (IsShardOver base 0 i) (sym (slot_first base i inside)) (refl, refl, refl);
}
