use Rattle.mv_shards.proofs.Scratch.{parts_then}
use Rattle.mv_shards.proofs.ChainRefs.{spots_kept}
use Rattle.mv_shards.proofs.commit_scratch.make_room.Goals as goal

pub returns-in_err-place_writes-clause-grown : goal.returns-in_err-place_writes-clause-grown
returns-in_err-place_writes-clause-grown c = parts_then _ _ _ c.place_reads.ensures.grown c.place_writes.ensures.grown

pub returns-clause-grown : goal.returns-clause-grown
returns-clause-grown c = parts_then _ _ _ c.place_reads.ensures.grown c.place_writes.ensures.grown

pub returns-clause-room : goal.returns-clause-room
returns-clause-room c = record {
  spots = spots_kept _ _ (λ i. (c.in_ok-place_writes.ensures.roomier i).numbers) _ _ c.in_ok-place_reads.ensures.spots;
  roomy = c.in_ok-place_writes.ensures.placed;
  rising_reads = c.in_ok-place_reads.ensures.order;
  rising_writes = c.in_ok-place_writes.ensures.order;
}
