use Rattle.std.proofs.Common.{take}
use Rattle.avm_pool.specs.Proposals.{AreMarkedNumbers}
use Rattle.avm_pool.proofs.left_numbers.marks_of.Given as goal

abbrev pub invariant-loop-number : goal.invariant-loop-number
invariant-loop-number l = AreMarkedNumbers (take l.number-index l.numbers) l.count l.marks.items
