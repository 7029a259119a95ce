use Rattle.std.proofs.Common.{sym, ◌∙◌}
use Rattle.mv_shards.proofs.Left.{next_left}
use Rattle.mv_parts.specs.CommitTests.{lateness_below}
use Rattle.mv_parts.proofs.CommitLoops.{late_here}
use Rattle.mv_parts.proofs.entry_tests.late_by_entries.Goals as goal

pub returns-in-Some : goal.returns-in-Some
returns-in-Some c base =
    let left = next_left _ _ c.as_slice-item-items.ensures.all c.loop-item.item-index c.loop-item-item.result c.loop-item-test.true c.loop-item-item.is in
    let here = late_here (lateness_below base c.args.entries.now c.args.held.now c.args.timestamp) c.loop-item-item.result _ _ c.in-Some.late left (sym (c.late_at.ensures base) ∙ c.in-Some.is) in
    c.late_fault.ensures ∙ sym here ∙ c.loop-item.invariant.0 base
