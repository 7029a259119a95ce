use Rattle.std.proofs.Common.{◌≡◌, drop}
use Rattle.avm_items.specs.Putting.{without_all}
use Rattle.avm_items.proofs.writing.remove_all.Given as goal

-- what is left to take out leads to the same ledger
abbrev pub invariant-loop-item : goal.invariant-loop-item
invariant-loop-item l = without_all l.ledger (drop l.item-index l.items) ≡ without_all l.fn.ledger l.items
