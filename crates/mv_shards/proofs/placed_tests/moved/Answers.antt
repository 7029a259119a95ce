use Rattle.std.proofs.Common.{refl, subst, sym}
use Rattle.std.specs.List.{AllByRecursion}
use Rattle.avm_items.specs.Items.{ItemMap}
use Rattle.mv_shards.specs.SlotWriting.{AreChainRefs, IsReadableIn}
use Rattle.mv_shards.proofs.placed_tests.moved.Goals as goal

pub loop-index-init : goal.loop-index-init
loop-index-init c = record {
  spots = subst (λ (es : ItemMap). AreChainRefs c.args.parts.now es c.args.spots.now) (sym c.as_slice-entries.ensures.all) c.requires.spots;
  readable = subst (AllByRecursion (λ e. IsReadableIn c.args.timestamp c.args.parts.now e.0)) (sym c.as_slice-entries.ensures.all) c.requires.readable;
  same = refl;
}
