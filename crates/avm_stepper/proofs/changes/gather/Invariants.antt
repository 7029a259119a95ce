use Rattle.std.proofs.Common.{◌≡◌, drop}
use Rattle.avm_stepper.specs.Changes.{gathered}
use Rattle.avm_stepper.proofs.changes.gather.Given as goal

-- what is left of the state leads to the same keys
abbrev pub invariant-loop-key : goal.invariant-loop-key
invariant-loop-key l = gathered (drop l.key-index l.state) l.keys.entries ≡ gathered l.state l.fn.keys.entries
