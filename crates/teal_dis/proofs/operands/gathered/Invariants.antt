use Rattle.std.proofs.Common.{◌≡◌, map, Ok}
use Rattle.teal_dis.proofs.operands.gathered.Given as goal

abbrev pub invariant-loop-word : goal.invariant-loop-word
invariant-loop-word g l = l.yielded ≡ map Ok l.strings.items
