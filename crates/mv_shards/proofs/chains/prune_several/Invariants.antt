use Rattle.std.proofs.Common.{◌≡◌, vec_capacity, vec_len}
use Rattle.mv_shards.proofs.Prunes.{GoesOn}
use Rattle.mv_shards.proofs.chains.prune_several.Given as goal

-- the numbers before this one were looked at, and the first of these stay
abbrev pub invariant-loop-index : goal.invariant-loop-index
invariant-loop-index l =
    GoesOn l.timestamp l.initial.list.items l.several.items (vec_capacity l.several) l.kept l.index l.list.items
    × (vec_len l.several ≡ vec_len l.initial.several)
