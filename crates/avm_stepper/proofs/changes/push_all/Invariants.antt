use Rattle.std.proofs.Common.{◌≡◌, ◌++◌}
use Rattle.avm_stepper.specs.Changes.{changes_seen, local_seen, of_account}
use Rattle.avm_stepper.proofs.changes.push_all.Given as goal

abbrev pub invariant-loop-change : goal.invariant-loop-change
invariant-loop-change l = local_seen l.changes.items ++ of_account l.account (changes_seen l.change-iterator.rest.items) ≡ local_seen l.fn.changes.items ++ of_account l.account (changes_seen l.fn.found.items)
