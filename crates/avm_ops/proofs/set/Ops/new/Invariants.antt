use Rattle.std.proofs.Common.{◌≡◌, None, replicate}
use Rattle.avm_ops.proofs.set.Ops.new.Given as goal

abbrev pub invariant-loop-code : goal.invariant-loop-code
invariant-loop-code g l = l.slots.items ≡ replicate l._code None
