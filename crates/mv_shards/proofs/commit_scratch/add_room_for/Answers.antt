use Rattle.mv_shards.proofs.Scratch.{parts_then, rooms_then}
use Rattle.mv_shards.proofs.ChainRefs.{spot_kept}
use Rattle.mv_shards.proofs.commit_scratch.add_room_for.Goals as goal

pub returns-in_err-reserve_at-clause-grown : goal.returns-in_err-reserve_at-clause-grown
returns-in_err-reserve_at-clause-grown c = parts_then _ _ _ c.add_chain_for.ensures.grown c.reserve_at.ensures.grown

pub returns-clause-grown : goal.returns-clause-grown
returns-clause-grown c = parts_then _ _ _ c.add_chain_for.ensures.grown c.reserve_at.ensures.grown

pub returns-clause-roomier : goal.returns-clause-roomier
returns-clause-roomier c = rooms_then _ _ _ c.in_ok-spot.ensures.roomier c.in_ok-reserve_at.ensures.roomier

pub returns-clause-spot : goal.returns-clause-spot
returns-clause-spot c = spot_kept _ _ (λ i. (c.in_ok-reserve_at.ensures.roomier i).numbers) _ _ c.in_ok-spot.ensures.spot
