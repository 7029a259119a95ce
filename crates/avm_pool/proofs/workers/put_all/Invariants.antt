use Rattle.std.proofs.Common.{◌≡◌, true, []}
use Rattle.avm_pool.specs.NumberPasses.{view, IsWith}
use Rattle.avm_pool.specs.NumberRule.{hand}
use Rattle.avm_pool.proofs.workers.put_all.Given as goal

abbrev pub invariant-loop-below : goal.invariant-loop-below
invariant-loop-below g l = IsWith l.numbers l.pass × (view l.pass ≡ hand true l.below [])
