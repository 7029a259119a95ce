use Rattle.std.proofs.Common.{length}
use Rattle.avm_pool.proofs.refusals.+missing.Given as goal

abbrev pub decreases-missing : goal.decreases-missing
decreases-missing g l = length l.sets.now
