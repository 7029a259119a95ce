use Rattle.std.proofs.Common.{◌≡◌, nat_lt, drop}
use Rattle.avm_call.specs.CallRules.{total_length}
use Rattle.avm_call.proofs.call.are_longer.Given as goal

abbrev pub invariant-loop-string : goal.invariant-loop-string
invariant-loop-string l = nat_lt l.room (total_length (drop l.string-index l.strings)) ≡ nat_lt l.most (total_length l.strings)
