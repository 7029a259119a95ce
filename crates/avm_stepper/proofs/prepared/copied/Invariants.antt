use Rattle.std.proofs.Common.{◌≡◌, ◌++◌, drop}
use Rattle.avm_items.specs.Items.{IsInItemOrder}
use Rattle.avm_stepper.proofs.prepared.copied.Given as goal

-- the items copied, and those that are left
abbrev pub invariant-loop-item : goal.invariant-loop-item
invariant-loop-item l = record {
  order : IsInItemOrder l.items;
  all : l.copy ++ (drop l.item-index l.items) ≡ l.items;
}
