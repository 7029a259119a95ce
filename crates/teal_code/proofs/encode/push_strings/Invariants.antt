use Rattle.std.proofs.Common.{◌≡◌, ◌++◌, length, drop}
use Rattle.std.specs.List.{flat_map}
use Rattle.teal_code.specs.Varuint.{varuint}
use Rattle.teal_code.specs.Encoding.{Continues, prefixed}
use Rattle.teal_code.proofs.encode.push_strings.Given as goal

-- what is written, and the strings that are left, are the block
abbrev pub invariant-loop-string : goal.invariant-loop-string
invariant-loop-string l = (l.code.items ++ flat_map prefixed (drop l.string-index l.strings) ≡ l.fn.code.items ++ (varuint (length l.strings) ++ flat_map prefixed l.strings)) × Continues l.fn.code.items l.code.items
