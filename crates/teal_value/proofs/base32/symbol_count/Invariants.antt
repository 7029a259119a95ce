use Rattle.std.proofs.Common.{◌≡◌, ◌+◌, drop}
use Rattle.teal_value.specs.Base32.{symbol_count}
use Rattle.teal_value.proofs.base32.symbol_count.Given as goal

abbrev pub invariant-loop-i : goal.invariant-loop-i
invariant-loop-i l = l.i + symbol_count (drop l.i l.text) ≡ symbol_count l.text
