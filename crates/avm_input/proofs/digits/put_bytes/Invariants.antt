use Rattle.std.proofs.Common.{◌≡◌, ◌≤◌, ◌-◌, length}
use Rattle.avm_input.specs.DigitPairs.{AreRead}
use Rattle.avm_input.proofs.digits.put_bytes.Given as goal

abbrev pub decreases-loop-i : goal.decreases-loop-i
decreases-loop-i l = length l.initial.bytes - l.i

abbrev pub invariant-loop-i : goal.invariant-loop-i
invariant-loop-i l = (length l.bytes ≡ length l.initial.bytes) × (l.i ≤ length l.bytes) × AreRead l.digits l.bytes l.i l.most
