use Rattle.std.proofs.Common.{◌+◌, ◌-◌}
use Rattle.avm_bytes.specs.ListedCalls.{more_calls}
use Rattle.avm_bytes.proofs.ListedCalls.{ReadsOn}
use Rattle.avm_bytes.proofs.listed_calls.many_of.Given as goal

-- the calls so far, and those that are left, are all of them
abbrev pub invariant-loop-index : goal.invariant-loop-index
invariant-loop-index l = ReadsOn l.bytes l.calls.items (l.index + 1) (l.count - l.index) l.place (more_calls l.bytes 1 l.count 4)
