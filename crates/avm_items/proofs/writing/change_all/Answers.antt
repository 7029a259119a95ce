use Rattle.std.proofs.Common.{◌∙◌, length-set, rules}
use Rattle.avm_items.proofs.PutBack.{one_more_changed}
use Rattle.avm_items.proofs.writing.change_all.Goals as goal

pub loop-index-preserved : goal.loop-index-preserved
loop-index-preserved c = record {
  count = length-set _ _ _ ∙ c.loop-index.invariant.count;
  so_far = one_more_changed c.loop-index.entries.items c.loop-index.index c.loop-index.ledger c.change.new.ledger _ _ c.loop-index.absent.items c.change.new.absent.items _ c.index_mut.result.now c.change.new.entry
      c.loop-index.invariant.so_far (search rules) c.index_mut.ensures.value c.in_default.ensures.set c.in_default.ensures.absent c.in_default.ensures.back;
}
