use Rattle.std.proofs.Common.{◌≡◌, ℕ, ◌<◌, ◌≤◌, None, get_or}
use Rattle.mv_shards.specs.Helds.{IsPrunedSlot}
use Rattle.mv_shards.specs.KeptHelds.{AreInSlots, seen_or_none}
use Rattle.mv_shards.proofs.held.prune_all.Given as goal

-- the slots before this one are pruned, and those from it on are as they were
abbrev pub invariant-loop-index : goal.invariant-loop-index
invariant-loop-index l =
    AreInSlots l.parts
    × ((i : ℕ) → i < l.index → IsPrunedSlot l.timestamp (seen_or_none (get_or l.initial.parts i None)) (seen_or_none (get_or l.parts i None)))
    × ((i : ℕ) → l.index ≤ i → get_or l.parts i None ≡ get_or l.initial.parts i None)
