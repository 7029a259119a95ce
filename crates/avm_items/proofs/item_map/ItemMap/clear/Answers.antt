use Rattle.std.proofs.Common.{subst, sym}
use Rattle.avm_items.specs.Items.{IsInItemOrder}
use Rattle.avm_items.proofs.MapOrders.{none_in_order}
use Rattle.avm_items.proofs.item_map.ItemMap.clear.Goals as goal

pub invariant_of-self : goal.invariant_of-self
invariant_of-self c = subst IsInItemOrder (sym c.clear.ensures.items) none_in_order
