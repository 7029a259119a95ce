use Rattle.std.proofs.Common.{◌∙◌, ap, sym}
use Rattle.mv_chain.specs.Versions.{lateness, newest_at}
use Rattle.mv_shards.specs.Indexes.{shard_of}
use Rattle.mv_shards.specs.KeptChains.{versions_of}
use Rattle.mv_shards.specs.SlotWriting.{first_at}
use Rattle.mv_shards.specs.TestedWrites.{no_version}
use Rattle.mv_shards.proofs.ChainRefs.{spot_chains, spot_here, spot_number, spot_readable}
use Rattle.mv_shards.proofs.placed_tests.late_at.Goals as goal

pub late_in-requires : goal.late_in-requires
late_in-requires c = spot_readable c.args.timestamp c.args.parts.now c.args.spot c.index-parts-spot.result c.in-Some.part c.requires c.in-Some.is

pub returns : goal.returns
returns c item spot =
    let here = spot_here c.args.parts.now item c.args.spot c.index-parts-spot.result c.in-Some.part spot c.in-Some.is in
    let first = first_at c.args.parts.now (shard_of item) in
    c.late_in.ensures item (spot_number c.args.parts.now item c.args.spot c.in-Some.part spot here) first no_version
    ∙ ap (λ map. lateness c.args.timestamp (newest_at c.args.timestamp (versions_of first map item) no_version)) (sym (spot_chains c.args.parts.now item c.args.spot c.in-Some.part spot here))
