use Rattle.std.proofs.Common.{◌+◌, drop}
use Rattle.avm_input.specs.Lines.{lines_shown}
use Rattle.avm_input.specs.ProposeInputs.{calls_on_lines}
use Rattle.avm_input.proofs.CallsSoFar.{GoesOn}
use Rattle.avm_input.proofs.numbered_calls.calls_on.Given as goal

abbrev pub invariant-loop-index : goal.invariant-loop-index
invariant-loop-index l = GoesOn (l.number + l.index) l.calls.items (lines_shown (drop l.index l.lines)) (calls_on_lines l.number (lines_shown l.lines))
