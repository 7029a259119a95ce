use Rattle.std.proofs.Common.{refl}
use Rattle.avm_items.specs.LedgerItems.{at}
use Rattle.mv_parts.proofs.entry_tests.has_value_below.Goals as goal

pub loop-entry-init : goal.loop-entry-init
loop-entry-init c = ((0, at c.args.base.now c.args.item.now), c.is_value_in-same.ensures, refl)
