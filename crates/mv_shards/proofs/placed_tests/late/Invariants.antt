use Rattle.std.proofs.Common.{◌≡◌, drop}
use Rattle.std.specs.List.{AllByRecursion}
use Rattle.mv_shards.specs.PlacedTests.{lateness_there}
use Rattle.mv_shards.specs.SlotWriting.{ArePlaced, IsReadableIn}
use Rattle.mv_shards.specs.TestedWrites.{first_late}
use Rattle.mv_shards.proofs.placed_tests.late.Given as goal

-- none of those before the index is late
abbrev pub invariant-loop-index : goal.invariant-loop-index
invariant-loop-index l = record {
  placed : ArePlaced l.parts (drop l.index l.entries) (drop l.index l.placed);
  readable : AllByRecursion (λ e. IsReadableIn l.timestamp l.parts e.0) (drop l.index l.entries);
  same : first_late (lateness_there l.timestamp l.parts) (drop l.index l.entries) ≡ first_late (lateness_there l.timestamp l.parts) l.entries;
}
