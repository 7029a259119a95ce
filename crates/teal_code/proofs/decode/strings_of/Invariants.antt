use Rattle.std.proofs.Common.{◌-◌}
use Rattle.teal_code.specs.Reader.{string_at, many_at}
use Rattle.teal_code.proofs.ManyReading.{ReadsOn}
use Rattle.teal_code.proofs.decode.strings_of.Given as goal

abbrev pub invariant-loop : goal.invariant-loop
invariant-loop l = ReadsOn string_at l.strings.items (l.count - l.counter) l.rest (many_at string_at l.count l.bytes)
