-- The shards of a store: the marks of their versions, and their versions after a read and a prune.
use Rattle.std.proofs.Common.{◌≡◌, ℕ, zero, suc, ◌<◌, ◌≤◌, ◌==◌, Bool, true, false, cond, if◌then◌else◌, [], ◌∷◌, Option, None, Some, get_or, set, refl, sym, ap, ◌∙◌, subst, arith}
use Rattle.std.specs.Map.{keys_of, lookup}
use Rattle.std.specs.BTreeMap.{is_at}
use Rattle.std.proofs.lemmas.List.{get_or-set_other}
use Rattle.avm_ledger.specs.Ledgers.{Ledger}
use Rattle.avm_items.specs.declared.item.Item.{Item}
use Rattle.avm_items.specs.declared.item_value.ItemValue.{ItemValue}
use Rattle.avm_items.specs.Items.{item_cmp}
use Rattle.avm_items.specs.LedgerItems.{at}
use Rattle.mv_chain.specs.Versions.{IsChain, mark_in, versions_from, versions_read_at}
use Rattle.mv_history.specs.World.{greatest_mark}
use Rattle.mv_history.proofs.Lists.{Equals, equal, unequal, equals}
use Rattle.mv_chain.specs.Stores.{after_item_read}
use Rattle.mv_parts.specs.CallHistory.{same_item}
use Rattle.mv_parts.proofs.SerialCalls.{items_have_an_equality}
use Rattle.mv_shards.specs.Chains.{VersionLists, versions_or, with_versions}
use Rattle.mv_shards.specs.Indexes.{shard_count, shard_of}
use Rattle.mv_shards.specs.Shards.{Shard, versions_held}
use Rattle.mv_shards.specs.Helds.{IsPrunedSlot, ShardSlots, shard_for}
use Rattle.mv_shards.specs.Writing.{versions_for, versions_or_none}
use Rattle.mv_shards.proofs.Steps.{set_here}
use Rattle.mv_core.specs.AllShards.{AreAllOver, IsShardOver}
use Rattle.mv_parts.proofs.Agreeing.{read_in}
use Rattle.mv_core.specs.Stores.{items_in, items_or_none, marks_in}
use Rattle.mv_core.proofs.MarkLists.{among_both, is_among, marks_listed}

-- ---- marks

no_list : (x : Item) (lists : VersionLists ItemValue) → is_among same_item x (keys_of lists) ≡ false → lookup (is_at (item_cmp x)) lists ≡ None
no_list x [] h = refl
no_list x (c ∷ cs) h = by (same_item x c.0) h (no_list x cs)
  where
    by : (b : Bool) → (if b then true else is_among same_item x (keys_of cs)) ≡ false → (is_among same_item x (keys_of cs) ≡ false → lookup (is_at (item_cmp x)) cs ≡ None) → cond b (Some c.1) (lookup (is_at (item_cmp x)) cs) ≡ None
    by true never rest = absurd cc
    by false h rest = rest h

unmarked : (n : ℕ) (o : Option Shard) (x : Item) → is_among same_item x (items_or_none o) ≡ false → mark_in n (versions_or_none o x) ≡ 0
unmarked n None x h = refl
unmarked n (Some s) x h = ap (λ f. mark_in n (versions_or (at s.base x) f)) (no_list x s.chains h) ∙ by (0 == n)
  where
    by : (b : Bool) → ◌≡◌ {A = ℕ} (if b then 0 else 0) 0
    by true = refl
    by false = refl

unlisted : (shard_slots : ShardSlots) (x : Item) (i : ℕ) → is_among same_item x (items_in shard_slots) ≡ false → is_among same_item x (items_or_none (get_or shard_slots i None)) ≡ false
unlisted [] x i h = refl
unlisted (o ∷ os) x zero h = (among_both same_item x (items_or_none o) (items_in os) h).0
unlisted (o ∷ os) x (suc i) h = unlisted os x i (among_both same_item x (items_or_none o) (items_in os) h).1

-- the greatest mark of a version, by the list of marks, is the version's own
pub marks_of_slots : (shard_slots : ShardSlots) → ((x : Item) → IsChain (versions_for shard_slots x)) → (x : Item) (n : ℕ) → greatest_mark same_item (marks_in shard_slots) x n ≡ mark_in n (versions_for shard_slots x)
marks_of_slots shard_slots chains = marks_listed same_item (versions_for shard_slots) items_have_an_equality.exact chains (items_in shard_slots) (λ x n h. unmarked n (shard_for shard_slots x) x (unlisted shard_slots x (shard_of x) h))

-- ---- a read

-- after a read of an item, each item has the versions that the read makes of the old ones
pub versions_after_read : (shard_slots : ShardSlots) (x : Item) (t : ℕ) (s : Shard) → shard_for shard_slots x ≡ Some s → (y : Item)
    → versions_for (set shard_slots (shard_of x) (Some (record s { chains = with_versions s.chains x (versions_read_at t (versions_held s x)) }))) y ≡ after_item_read same_item t x (versions_for shard_slots) y
versions_after_read shard_slots x t s here y = by (shard_of y == shard_of x) (equals (shard_of y) (shard_of x))
  where
    new : Shard
    new = record s { chains = with_versions s.chains x (versions_read_at t (versions_held s x)) }

    old_x : versions_for shard_slots x ≡ versions_held s x
    old_x = ap (λ o. versions_or_none o x) here

    by : (b : Bool) → Equals (shard_of y) (shard_of x) b → versions_for (set shard_slots (shard_of x) (Some new)) y ≡ (if same_item y x then versions_read_at t (versions_for shard_slots x) else versions_for shard_slots y)
    by b (equal e) =
        ap (λ i. versions_or_none (get_or (set shard_slots (shard_of x) (Some new)) i None) y) e ∙ ap (λ o. versions_or_none o y) (set_here shard_slots (shard_of x) s new here)
        ∙ read_in s x (versions_read_at t (versions_held s x)) y
        ∙ (λ i. if same_item y x then versions_read_at t (sym old_x i) else sym old_y i)
      where
        old_y : versions_for shard_slots y ≡ versions_held s y
        old_y = ap (λ i. versions_or_none (get_or shard_slots i None) y) e ∙ ap (λ o. versions_or_none o y) here
    by b (unequal e) = ap (λ o. versions_or_none o y) (get_or-set_other shard_slots (shard_of x) (shard_of y) (Some new) None e) ∙ apart (same_item y x) refl
      where
        apart : (c : Bool) → same_item y x ≡ c → versions_for shard_slots y ≡ (if c then versions_read_at t (versions_for shard_slots x) else versions_for shard_slots y)
        apart true same = absurd (e (ap shard_of (items_have_an_equality.exact y x same)))
        apart false other = refl

-- each index has a shard over the base still
pub shards_after_read : (shard_slots : ShardSlots) (base : Ledger) (low i : ℕ) (s new : Shard) → i < shard_count → get_or shard_slots i None ≡ Some s → new.index ≡ s.index → new.low ≡ s.low → new.base ≡ s.base
    → AreAllOver base low shard_slots → AreAllOver base low (set shard_slots i (Some new))
shards_after_read shard_slots base low i s new inside here same_index same_low same_base k = record {
  beyond = λ j above. get_or-set_other shard_slots i j (Some new) None (λ e. omega (arith, e, above, inside)) ∙ k.beyond j above;
  each = λ j within. by j within (j == i) (equals j i);
}
  where
    by : (j : ℕ) → j < shard_count → (b : Bool) → Equals j i b → IsShardOver base low j (get_or (set shard_slots i (Some new)) j None)
    by j within b (equal e) =
        subst (λ o. IsShardOver base low j o) (sym (ap (λ m. get_or (set shard_slots i (Some new)) m None) e ∙ set_here shard_slots i s new here))
        (let was : IsShardOver base low j (Some s) = subst (λ o. IsShardOver base low j o) (ap (λ m. get_or shard_slots m None) e ∙ here) (k.each j within) in (same_index ∙ was.0, same_low ∙ was.1, same_base ∙ was.2))
    by j within b (unequal e) = subst (λ o. IsShardOver base low j o) (sym (get_or-set_other shard_slots i j (Some new) None e)) (k.each j within)

-- ---- a prune

-- the slot's shard has the higher low mark, and the versions that a prune there leaves
pub record IsRaisedSlot (higher i : ℕ) (base : Ledger) (old new : Option Shard) : Type 0 where
  pub over : IsShardOver base higher i new
  pub versions : (x : Item) → versions_or_none new x ≡ versions_from higher (versions_or_none old x)

pub raised_slot : (higher low i : ℕ) (base : Ledger) (old new : Option Shard) → low ≤ higher → IsShardOver base low i old → IsPrunedSlot higher old new → IsRaisedSlot higher i base old new
raised_slot higher low i base None new below over pruned = absurd over
raised_slot higher low i base (Some s) None below over pruned = absurd pruned
raised_slot higher low i base (Some s) (Some n) below over pruned =
    let raised = pruned.raised (subst (λ l. l ≤ higher) (sym over.1) below) in
    record { over = (raised.index ∙ over.0, raised.low, raised.base ∙ over.2); versions = raised.versions }

-- a slot without a shard has none afterwards
pub none_stays : (t : ℕ) (old new : Option Shard) → IsPrunedSlot t old new → old ≡ None → new ≡ None
none_stays t None None pruned none = refl
none_stays t None (Some n) pruned none = absurd pruned
none_stays t (Some s) new pruned none = absurd cc
