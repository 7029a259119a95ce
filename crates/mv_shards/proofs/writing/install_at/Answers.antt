use Rattle.std.proofs.Common.{refl, subst}
use Rattle.mv_shards.specs.KeptChains.{TakesVersion}
use Rattle.mv_shards.proofs.ChainRefs.{spot_chains, spot_here, spot_number}
use Rattle.mv_shards.proofs.Writes.{installed_item}
use Rattle.mv_shards.proofs.writing.install_at.Goals as goal

pub install-requires-clause-takes : goal.install-requires-clause-takes
install-requires-clause-takes c =
    let p = c.requires.takes in
    let here = spot_here c.args.parts.now p.item c.args.spot c.index-parts-spot.result c.in-Some.part p.here c.in-Some.is in
    record {
      item = p.item;
      numbered = spot_number c.args.parts.now p.item c.args.spot c.in-Some.part p.here here;
      takes = subst (λ map. TakesVersion c.args.timestamp map p.item) (spot_chains c.args.parts.now p.item c.args.spot c.in-Some.part p.here here) p.takes;
    }

pub returns : goal.returns
returns c item spot =
    let here = spot_here c.args.parts.now item c.args.spot c.index-parts-spot.result c.in-Some.part spot c.in-Some.is in
    installed_item c.args.timestamp item c.args.value c.args.parts.now c.args.spot.shard c.in-Some.part (record c.in-Some.part { chains = c.install.new.self }) spot.shard here refl
    (c.install.ensures item (spot_number c.args.parts.now item c.args.spot c.in-Some.part spot here))
