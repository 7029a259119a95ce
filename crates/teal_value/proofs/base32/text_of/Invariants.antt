use Rattle.std.proofs.Common.{◌≡◌, take, map}
use Rattle.std.specs.String.{string_bytes}
use Rattle.teal_value.specs.Base32.{symbol}
use Rattle.teal_value.proofs.base32.text_of.Given as goal

abbrev pub invariant-loop-group : goal.invariant-loop-group
invariant-loop-group l = string_bytes l.text ≡ map symbol (take l.group-index l.groups)
