use Rattle.std.proofs.Common.{◌≡◌, drop}
use Rattle.avm_stepper.specs.WrittenStates.{with_items_set}
use Rattle.avm_stepper.proofs.written_state.with_items_set.Given as goal

-- what is left of the items leads to the same state
abbrev pub invariant-loop-item : goal.invariant-loop-item
invariant-loop-item l = with_items_set l.id l.state (drop l.item-index l.items) ≡ with_items_set l.id l.fn.state l.items
