use Rattle.std.proofs.Common.{◌≡◌}
use Rattle.avm_pool.specs.NumberPasses.{view, IsWith}
use Rattle.avm_pool.proofs.workers.enlist_all.Given as goal

abbrev pub invariant-loop-ops : goal.invariant-loop-ops
invariant-loop-ops g l = IsWith l.numbers l.pass × (view l.pass ≡ view l.fn.pass)
