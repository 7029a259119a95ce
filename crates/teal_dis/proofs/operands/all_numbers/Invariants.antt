use Rattle.std.proofs.Common.{◌≡◌, ◌++◌, map, drop}
use Rattle.std.specs.Fmt.{decimal}
use Rattle.teal_dis.specs.Shown.{texts}
use Rattle.teal_dis.proofs.operands.all_numbers.Given as goal

abbrev pub invariant-loop-n : goal.invariant-loop-n
invariant-loop-n l = texts l.words.items ++ map decimal (drop l.n-index l.numbers) ≡ map decimal l.numbers
