use Rattle.std.proofs.Common.{refl}
use Rattle.mv_shards.proofs.ChainRefs.{spot_here, spot_number, spot_readable}
use Rattle.mv_shards.proofs.Writes.{marked_item}
use Rattle.mv_shards.proofs.writing.mark_at.Goals as goal

pub mark-requires-clause-readable : goal.mark-requires-clause-readable
mark-requires-clause-readable c = spot_readable c.args.timestamp c.args.parts.now c.args.spot c.index-parts-spot.result c.in-Some.part c.requires.readable c.in-Some.is

pub returns : goal.returns
returns c item spot =
    let here = spot_here c.args.parts.now item c.args.spot c.index-parts-spot.result c.in-Some.part spot c.in-Some.is in
    marked_item c.args.timestamp item c.args.parts.now c.args.spot.shard c.in-Some.part (record c.in-Some.part { chains = c.mark.new.self }) spot.shard here refl
    (c.mark.ensures item (spot_number c.args.parts.now item c.args.spot c.in-Some.part spot here))
