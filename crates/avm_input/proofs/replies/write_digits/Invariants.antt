use Rattle.std.proofs.Common.{length}
use Rattle.avm_input.proofs.Written.{IsWrittenTo}
use Rattle.avm_input.proofs.replies.write_digits.Given as goal

abbrev pub invariant-loop-rest : goal.invariant-loop-rest
invariant-loop-rest g l = IsWrittenTo (g.W.Write.contents l.fn.writer) (g.W.Write.contents l.writer) l.fn.bytes l.rest

abbrev pub decreases-loop-rest : goal.decreases-loop-rest
decreases-loop-rest g l = length l.rest
