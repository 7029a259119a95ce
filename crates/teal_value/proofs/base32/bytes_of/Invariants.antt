use Rattle.std.proofs.Common.{◌≡◌, ◌<◌, ◌++◌, length, All}
use Rattle.teal_value.specs.Base32.{bytes_of_digits}
use Rattle.teal_value.proofs.base32.bytes_of.Given as goal

abbrev pub invariant-loop-rest : goal.invariant-loop-rest
invariant-loop-rest l = record {
  same : l.out.items ++ bytes_of_digits l.rest ≡ bytes_of_digits l.groups;
  small : All (λ g. g < 32) l.rest;
}

abbrev pub decreases-loop-rest : goal.decreases-loop-rest
decreases-loop-rest l = length l.rest
