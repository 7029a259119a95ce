use Rattle.std.proofs.Common.{◌≡◌, ◌++◌}
use Rattle.avm_call.specs.Views.{state_changes}
use Rattle.avm_stepper.specs.Changes.{changes_along, changes_seen}
use Rattle.avm_stepper.proofs.changes.key_changes.Given as goal

-- the changes so far, and those of the keys that are left
abbrev pub invariant-loop-key : goal.invariant-loop-key
invariant-loop-key l = changes_seen l.changes.items ++ changes_along l.before l.after l.key-iterator ≡ state_changes l.before l.after
