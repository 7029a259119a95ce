use Rattle.std.proofs.Common.{subst, sym}
use Rattle.avm_items.specs.Items.{IsInItemOrder}
use Rattle.avm_items.proofs.MapOrders.{none_in_order}
use Rattle.avm_items.proofs.item_map.ItemMap.in_room_of.Goals as goal

pub invariant_of-result : goal.invariant_of-result
invariant_of-result c = subst IsInItemOrder (sym c.clear.ensures.items) none_in_order
