use Rattle.std.specs.Prelude.{◌≡◌, ℕ, drop}
use Rattle.avm_items.specs.declared.item_value.ItemValue.{ItemValue}
use Rattle.avm_items.specs.LedgerItems.{at}
use Rattle.avm_items.specs.SameValues.{is_same_value}
use Rattle.mv_history.specs.History.{newest_version, version_below}
use Rattle.mv_parts.specs.CallHistory.{same_item}
use Rattle.mv_parts.proofs.entry_tests.has_value_below.Given as goal

-- the newest version among the entries before
abbrev pub invariant-loop-entry : goal.invariant-loop-entry
invariant-loop-entry l =
    (v : ℕ × ItemValue) × (l.same ≡ is_same_value v.1 l.value) × (newest_version same_item l.timestamp (drop l.entry-index l.entries) l.item v ≡ version_below same_item (at l.base) l.entries l.timestamp l.item)
