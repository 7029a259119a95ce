use Rattle.std.proofs.Common.{◌≡◌}
use Rattle.avm_pool.specs.Proposals.{left_to}
use Rattle.avm_pool.proofs.left_numbers.unmarked.Given as goal

abbrev pub invariant-loop-below : goal.invariant-loop-below
invariant-loop-below l = l.left.items ≡ left_to l.numbers l.below
