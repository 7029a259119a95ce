-- The end of the parts that are held, over their changes.
use Rattle.std.proofs.Common.{◌≡◌, ◌∙◌, ◌-◌, ℕ, false, get_or, Option, None, Some, refl, ap, subst}
use Rattle.std.specs.Prelude.{is_some}
use Rattle.mv_shards.specs.declared.shard_state.ShardState.{ShardState}
use Rattle.mv_shards.specs.Helds.{ArePruned, IsPrunedSlot}
use Rattle.mv_shards.specs.KeptHelds.{IsEnd, seen_all, seen_or_none}
use Rattle.mv_shards.specs.SlotWriting.{StateSlots, frame_at, frame_or}
use Rattle.mv_shards.proofs.Slots.{seen_at}

none_of : {A : Type 0} (o : Option A) → is_some o ≡ false → o ≡ None
none_of None is = refl
none_of (Some p) is = absurd cc

-- where each slot has a part if it had one, the end stays
pub end_kept : (old new : StateSlots) (end : ℕ) → ((i : ℕ) → is_some (get_or new i None) ≡ is_some (get_or old i None)) → IsEnd old end → IsEnd new end
end_kept old new end alike e = record {
  few = e.few;
  free = λ i above. none_of (get_or new i None) (alike i ∙ ap is_some (e.free i above));
  last = λ some. alike (end - 1) ∙ e.last some;
}

framed_alike : (o p : Option ShardState) → frame_or p ≡ frame_or o → is_some p ≡ is_some o
framed_alike None None same = refl
framed_alike None (Some q) same = absurd cc
framed_alike (Some p) None same = absurd cc
framed_alike (Some p) (Some q) same = refl

pub end_framed : (old new : StateSlots) (end : ℕ) → ((i : ℕ) → frame_at new i ≡ frame_at old i) → IsEnd old end → IsEnd new end
end_framed old new end frames = end_kept old new end (λ i. framed_alike (get_or old i None) (get_or new i None) (frames i))

pruned_alike : (t : ℕ) (o p : Option ShardState) → IsPrunedSlot t (seen_or_none o) (seen_or_none p) → is_some p ≡ is_some o
pruned_alike t None None pruned = refl
pruned_alike t None (Some q) pruned = absurd pruned
pruned_alike t (Some p) None pruned = absurd pruned
pruned_alike t (Some p) (Some q) pruned = refl

pub end_pruned : (t : ℕ) (old new : StateSlots) (end : ℕ) → ArePruned t (seen_all old) (seen_all new) → IsEnd old end → IsEnd new end
end_pruned t old new end pruned = end_kept old new end (λ i. pruned_alike t (get_or old i None) (get_or new i None)
    (subst (λ o. IsPrunedSlot t o (seen_or_none (get_or new i None))) (seen_at old i) (subst (IsPrunedSlot t (get_or (seen_all old) i None)) (seen_at new i) (pruned i))))
