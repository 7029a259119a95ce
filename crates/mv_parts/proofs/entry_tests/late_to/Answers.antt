use Rattle.std.proofs.Common.{ap, ◌∙◌}
use Rattle.avm_items.specs.LedgerItems.{at}
use Rattle.mv_parts.specs.Commits.{late_after}
use Rattle.mv_parts.specs.Journals.{greatest_reader}
use Rattle.mv_parts.proofs.EntryTests.{told_in_time, told_late}
use Rattle.mv_parts.proofs.entry_tests.late_to.Goals as goal

pub returns-then-timestamp-mark : goal.returns-then-timestamp-mark
returns-then-timestamp-mark c base =
    let version = c.version_below-version.ensures (at base) in
    let mark = c.greatest_reader-mark.ensures base ∙ ap (greatest_reader base c.args.entries.now c.args.item.now) version in
    told_late c.args.timestamp _ _ c.if-timestamp-mark.true ∙ (λ i. late_after c.args.timestamp (version i) (mark i))

pub returns-else-timestamp-mark : goal.returns-else-timestamp-mark
returns-else-timestamp-mark c base =
    let version = c.version_below-version.ensures (at base) in
    let mark = c.greatest_reader-mark.ensures base ∙ ap (greatest_reader base c.args.entries.now c.args.item.now) version in
    told_in_time c.args.timestamp _ _ c.if-timestamp-mark.false ∙ (λ i. late_after c.args.timestamp (version i) (mark i))
