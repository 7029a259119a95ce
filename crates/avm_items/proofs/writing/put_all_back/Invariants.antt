use Rattle.std.proofs.Common.{vec_len}
use Rattle.avm_ledger.specs.Ledgers.{Ledger}
use Rattle.avm_items.specs.Putting.{AllPutBack}
use Rattle.avm_items.proofs.writing.put_all_back.Given as goal

-- what is left to put back leads to the same ledgers
abbrev pub invariant-loop-item : goal.invariant-loop-item
invariant-loop-item l = (before : Ledger) → AllPutBack l.fn.ledger l.fn.changes.items before → AllPutBack l.ledger l.changes.items before

abbrev pub decreases-loop-item : goal.decreases-loop-item
decreases-loop-item l = vec_len l.changes
