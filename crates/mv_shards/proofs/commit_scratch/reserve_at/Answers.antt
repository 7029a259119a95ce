use Rattle.std.proofs.Common.{sym, subst, refl}
use Rattle.std.specs.Arc.{arc_value}
use Rattle.avm_items.specs.LedgerItems.{at}
use Rattle.mv_shards.specs.KeptChains.{HasRoomFor}
use Rattle.mv_shards.proofs.Numbers.{number_within}
use Rattle.mv_shards.proofs.OneChain.{ok_then}
use Rattle.mv_shards.proofs.ChainRefs.{spot_here, spot_number}
use Rattle.mv_shards.proofs.Steps.{chains_here, grown_at, roomier_at}
use Rattle.mv_shards.proofs.commit_scratch.reserve_at.Goals as goal

pub reserve-requires : goal.reserve-requires
reserve-requires c =
    let here = spot_here c.args.parts.now c.requires.0 c.args.spot c.index-parts-spot.result c.in-Some.part c.requires.1 c.in-Some.is in
    number_within c.in-Some.part.chains c.requires.0 c.args.spot.number (sym (spot_number c.args.parts.now c.requires.0 c.args.spot c.in-Some.part c.requires.1 here))

pub returns-clause-grown : goal.returns-clause-grown
returns-clause-grown c =
    let here = spot_here c.args.parts.now c.requires.0 c.args.spot c.index-parts-spot.result c.in-Some.part c.requires.1 c.in-Some.is in
    grown_at c.args.parts.now c.args.spot.shard c.in-Some.part (record c.in-Some.part { chains = c.reserve.new.self }) here refl (c.reserve.ensures.grown (at (arc_value c.in-Some.part.base)))

pub returns-clause-roomier : goal.returns-clause-roomier
returns-clause-roomier c =
    let here = spot_here c.args.parts.now c.requires.0 c.args.spot c.index-parts-spot.result c.in-Some.part c.requires.1 c.in-Some.is in
    ok_then c.reserve.result _ _ (roomier_at c.args.parts.now c.args.spot.shard c.in-Some.part (record c.in-Some.part { chains = c.reserve.new.self }) here) c.reserve.ensures.roomier

pub returns-clause-room : goal.returns-clause-room
returns-clause-room c =
    let here = spot_here c.args.parts.now c.requires.0 c.args.spot c.index-parts-spot.result c.in-Some.part c.requires.1 c.in-Some.is in
    ok_then c.reserve.result _ _
    (λ room item spot.
    subst (λ map. HasRoomFor map item) (sym (chains_here c.args.parts.now c.args.spot.shard c.in-Some.part (record c.in-Some.part { chains = c.reserve.new.self }) here item spot.shard))
    (room item (spot_number c.args.parts.now item c.args.spot c.in-Some.part spot here)))
    c.reserve.ensures.room
