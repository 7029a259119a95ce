use Rattle.avm_items.proofs.MapOrders.{put_in_order}
use Rattle.avm_items.proofs.item_map.ItemMap.insert.Goals as goal

pub invariant_of-self : goal.invariant_of-self
invariant_of-self c = put_in_order c.put.result _ _ c.args.item c.args.value c.self.invariant c.put.ensures.set c.put.ensures.unchanged

pub invariant_of-self-2 : goal.invariant_of-self-2
invariant_of-self-2 c = put_in_order c.put.result _ _ c.args.item c.args.value c.self.invariant c.put.ensures.set c.put.ensures.unchanged
