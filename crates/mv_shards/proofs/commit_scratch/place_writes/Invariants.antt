use Rattle.std.proofs.Common.{drop}
use Rattle.mv_shards.proofs.Scratch.{MakesOn, has_room}
use Rattle.mv_shards.proofs.commit_scratch.place_writes.Given as goal

abbrev pub invariant-loop-item : goal.invariant-loop-item
invariant-loop-item l = MakesOn has_room l.writes l.fn.parts (drop l.item-index l.writes) l.placed.items l.parts
