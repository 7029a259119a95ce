use Rattle.std.specs.Prelude.{◌≡◌, drop}
use Rattle.avm_items.specs.LedgerItems.{at}
use Rattle.mv_history.specs.History.{state_below}
use Rattle.mv_parts.specs.CallHistory.{same_item}
use Rattle.mv_shards.specs.TestedWrites.{moved_item}
use Rattle.mv_parts.proofs.entry_tests.moved_by_entries.Given as goal

-- none of the items before has moved
abbrev pub invariant-loop-item : goal.invariant-loop-item
invariant-loop-item l =
    moved_item (state_below same_item (at l.base) l.entries l.timestamp) (drop l.item-index l.reads) ≡ moved_item (state_below same_item (at l.base) l.entries l.timestamp) l.reads
