use Rattle.std.proofs.Common.{◌≡◌, drop}
use Rattle.avm_items.specs.LedgerItems.{put}
use Rattle.avm_items.proofs.writing.put_copies.Given as goal

-- what is left to put leads to the ledger with all of it
abbrev pub invariant-loop-item : goal.invariant-loop-item
invariant-loop-item l = put l.«open» (drop l.item-index l.items) ≡ put l.fn.ledger l.items
