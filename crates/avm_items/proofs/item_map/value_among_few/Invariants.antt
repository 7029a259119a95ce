use Rattle.std.proofs.Common.{◌≡◌, drop}
use Rattle.avm_items.specs.Items.{value_in}
use Rattle.avm_items.proofs.item_map.value_among_few.Given as goal

-- none of the entries before the index is the item's
abbrev pub invariant-loop-index : goal.invariant-loop-index
invariant-loop-index l = value_in l.entries l.item ≡ value_in (drop l.index l.entries) l.item
