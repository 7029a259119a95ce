use Rattle.std.proofs.Common.{drop}
use Rattle.mv_shards.proofs.Scratch.{MakesOn, has_spot}
use Rattle.mv_shards.proofs.commit_scratch.place_reads.Given as goal

abbrev pub invariant-loop-item : goal.invariant-loop-item
invariant-loop-item l = MakesOn has_spot l.reads l.fn.parts (drop l.item-index l.reads) l.spots.items l.parts
