use Rattle.std.proofs.Common.{refl, subst, sym}
use Rattle.std.specs.List.{AllByRecursion}
use Rattle.avm_items.specs.Items.{ItemMap}
use Rattle.mv_shards.specs.SlotWriting.{ArePlaced, IsReadableIn}
use Rattle.mv_shards.proofs.placed_tests.late.Goals as goal

pub loop-index-init : goal.loop-index-init
loop-index-init c = record {
  placed = subst (λ (es : ItemMap). ArePlaced c.args.parts.now es c.args.placed.now) (sym c.as_slice-entries.ensures.all) c.requires.placed;
  readable = subst (AllByRecursion (λ e. IsReadableIn c.args.timestamp c.args.parts.now e.0)) (sym c.as_slice-entries.ensures.all) c.requires.readable;
  same = refl;
}
