use Rattle.std.proofs.Common.{◌≡◌, ◌++◌, length, drop}
use Rattle.std.specs.List.{flat_map}
use Rattle.teal_code.specs.Varuint.{varuint}
use Rattle.teal_code.specs.Encoding.{Continues}
use Rattle.teal_code.proofs.encode.push_uints.Given as goal

-- what is written, and the numbers that are left, are the block
abbrev pub invariant-loop-number : goal.invariant-loop-number
invariant-loop-number l = (l.code.items ++ flat_map varuint (drop l.number-index l.numbers) ≡ l.fn.code.items ++ (varuint (length l.numbers) ++ flat_map varuint l.numbers)) × Continues l.fn.code.items l.code.items
