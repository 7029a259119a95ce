use Rattle.std.proofs.Common.{◌≡◌, ◌++◌, length}
use Rattle.teal_value.specs.Base32.{groups}
use Rattle.teal_value.proofs.base32.groups_of.Given as goal

abbrev pub invariant-loop-rest : goal.invariant-loop-rest
invariant-loop-rest l = l.out.items ++ groups l.rest ≡ groups l.bytes

abbrev pub decreases-loop-rest : goal.decreases-loop-rest
decreases-loop-rest l = length l.rest
