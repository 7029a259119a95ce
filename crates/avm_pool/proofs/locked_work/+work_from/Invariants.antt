use Rattle.std.proofs.Common.{length, ◌-◌}
use Rattle.avm_pool.proofs.locked_work.+work_from.Given as goal

abbrev pub decreases-work_from : goal.decreases-work_from
decreases-work_from g l = length l.shards.now.wanted.now - l.from
