use Rattle.std.proofs.Common.{◌-◌, length}
use Rattle.avm_call.specs.Ends.{most_items}
use Rattle.avm_attempt.proofs.UnderWay.{IsUnderWay, reads_in}
use Rattle.avm_attempt.proofs.over_known.attempt_over.Given as goal

abbrev pub invariant-asking : goal.invariant-asking
invariant-asking g l = IsUnderWay l.call l.header l.known l.run

abbrev pub decreases-asking : goal.decreases-asking
decreases-asking g l = most_items - length (reads_in l.run)
