-- What a call that has ended is on each ledger that has what it read. The statement of the law.
use Rattle.std.specs.Prelude.{◌≡◌}
use Rattle.avm_ledger.specs.Ledgers.{IsOrderly, Ledger}
use Rattle.avm_items.specs.LedgerItems.{put, AgreesWithReads}
use Rattle.avm_call.specs.Replay.{outcome_on, changes_on, ledger_after}
use Rattle.avm_run.specs.Results.{CallRecord}

-- The call ends so on the ledger, and its writes are the changes, so they lead to the ledger after it.
pub record IsCallOn (l : Ledger) (f : CallRecord) : Type 0 where
  pub outcome : outcome_on l f.call f.header ≡ f.outcome
  pub changes : changes_on l f.call f.header ≡ f.writes
  pub after : ledger_after l f.call f.header ≡ put l f.writes

-- Keys and counts of an application that is gone may have been read as anything.
abbrev pub IsCallOnLedgers : CallRecord → Type 0
IsCallOnLedgers f = (l : Ledger) → IsOrderly l → AgreesWithReads l f.reads → IsCallOn l f
