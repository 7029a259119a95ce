use Rattle.std.proofs.Common.{◌≡◌, drop}
use Rattle.std.specs.List.{AllByRecursion}
use Rattle.mv_shards.specs.PlacedTests.{value_there}
use Rattle.mv_shards.specs.SlotWriting.{AreChainRefs, IsReadableIn}
use Rattle.mv_shards.specs.TestedWrites.{moved_item}
use Rattle.mv_shards.proofs.placed_tests.moved.Given as goal

-- none of those before the index has moved
abbrev pub invariant-loop-index : goal.invariant-loop-index
invariant-loop-index l = record {
  spots : AreChainRefs l.parts (drop l.index l.entries) (drop l.index l.spots);
  readable : AllByRecursion (λ e. IsReadableIn l.timestamp l.parts e.0) (drop l.index l.entries);
  same : moved_item (value_there l.timestamp l.parts) (drop l.index l.entries) ≡ moved_item (value_there l.timestamp l.parts) l.entries;
}
