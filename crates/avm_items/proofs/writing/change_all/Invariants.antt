use Rattle.std.proofs.Common.{◌≡◌, ◌++◌, length}
use Rattle.avm_items.specs.Putting.{absent_items, set_all}
use Rattle.avm_items.proofs.PutBack.{Changes}
use Rattle.avm_items.proofs.writing.change_all.Given as goal

abbrev pub invariant-loop-index : goal.invariant-loop-index
invariant-loop-index l = record {
  count : length l.entries.items ≡ length l.fn.entries.items;
  so_far : Changes l.entries.items l.index l.ledger l.absent.items l.fn.ledger (set_all l.fn.ledger l.fn.entries.items) (l.fn.absent.items ++ absent_items l.fn.entries.items);
}
