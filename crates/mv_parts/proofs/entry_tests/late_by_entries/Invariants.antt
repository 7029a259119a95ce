use Rattle.std.specs.Prelude.{◌≡◌, drop}
use Rattle.avm_ledger.specs.Ledgers.{Ledger}
use Rattle.mv_shards.specs.Helds.{AreHeld}
use Rattle.mv_parts.specs.Commits.{late_write}
use Rattle.mv_parts.specs.CommitTests.{lateness_below}
use Rattle.mv_parts.proofs.entry_tests.late_by_entries.Given as goal

-- no write before is late
abbrev pub invariant-loop-item : goal.invariant-loop-item
invariant-loop-item l =
    ((base : Ledger) → late_write (lateness_below base l.entries l.held l.timestamp) (drop l.item-index l.writes) ≡ late_write (lateness_below base l.entries l.held l.timestamp) l.writes) × AreHeld l.held (drop l.item-index l.writes)
