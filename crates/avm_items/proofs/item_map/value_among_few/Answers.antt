use Rattle.std.proofs.Common.{sym, ◌∙◌, arith}
use Rattle.avm_items.proofs.Lookups.{ends_at, goes_past}
use Rattle.avm_items.proofs.item_map.value_among_few.Goals as goal

pub loop-index-preserved : goal.loop-index-preserved
loop-index-preserved c =
    c.loop-index.invariant
    ∙ goes_past c.args.entries.now c.args.item.now c.loop-index.index c.index-entries-index.result (omega (arith, c.loop-index-test.true)) (sym c.index-entries-index.is) (sym c.is_item.ensures ∙ c.if-is_item.false)

pub returns-then-is_item : goal.returns-then-is_item
returns-then-is_item c =
    sym (c.loop-index.invariant
    ∙ ends_at c.args.entries.now c.args.item.now c.loop-index.index c.index-entries-index.result (omega (arith, c.loop-index-test.true)) (sym c.index-entries-index.is) (sym c.is_item.ensures ∙ c.if-is_item.true))
