use Rattle.std.proofs.Common.{length}
use Rattle.avm.proofs.+are_full.Given as goal

abbrev pub decreases-are_full : goal.decreases-are_full
decreases-are_full g l = length l.sets.now
