use Rattle.std.specs.Prelude.{◌≡◌, ℕ, drop}
use Rattle.avm_items.specs.declared.item.Item.{Item}
use Rattle.avm_items.specs.declared.item_value.ItemValue.{ItemValue}
use Rattle.mv_history.specs.History.{newest_version, version_below}
use Rattle.mv_parts.specs.CallHistory.{same_item}
use Rattle.mv_parts.proofs.entry_tests.version_below.Given as goal

-- the newest version among the entries before
abbrev pub invariant-loop-entry : goal.invariant-loop-entry
invariant-loop-entry l =
    (base : Item → ItemValue) → (v : ℕ × ItemValue) × (l.version ≡ v.0) × (newest_version same_item l.timestamp (drop l.entry-index l.entries) l.item v ≡ version_below same_item base l.entries l.timestamp l.item)
