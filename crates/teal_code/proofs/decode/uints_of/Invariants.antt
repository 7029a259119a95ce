use Rattle.std.proofs.Common.{◌-◌}
use Rattle.teal_code.specs.Reader.{varuint_at, many_at}
use Rattle.teal_code.proofs.ManyReading.{ReadsOn}
use Rattle.teal_code.proofs.decode.uints_of.Given as goal

abbrev pub invariant-loop : goal.invariant-loop
invariant-loop l = ReadsOn varuint_at l.numbers.items (l.count - l.counter) l.rest (many_at varuint_at l.count l.bytes)
