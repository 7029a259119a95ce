use Rattle.std.proofs.Common.{ℕ, None, Some, refl, sym, ap, ◌∙◌}
use Rattle.std.specs.Option.{option_copied}
use Rattle.avm_items.specs.declared.item_value.ItemValue.{ItemValue}
use Rattle.mv_parts.proofs.EntryTests.{version_found, version_further}
use Rattle.mv_parts.proofs.entry_tests.version_below.Goals as goal
use Rattle.mv_parts.proofs.entry_tests.version_below.Goals.{in-Some, in_default}

pub loop-entry-init : goal.loop-entry-init
loop-entry-init c base = ((0, base c.args.item.now), refl, refl)

pub loop-entry-preserved : goal.loop-entry-preserved
loop-entry-preserved c base =
    let was = c.loop-entry.invariant base in
    elim c.match-written_below.branch [
      | in-Some w ↦ (
        (c.entry-item.result.timestamp, w.in-Some._written.now),
        w.version-is ∙ w.timestamp-version.ensures,
        version_further c.args.entries.now c.loop-entry.entry-index c.args.timestamp c.args.item.now was.0 c.entry-item.result (Some w.in-Some._written.now) c.loop-entry-test.true c.entry-item.is
            (sym (ap option_copied w.in-Some.is) ∙ c.written_below.ensures)
            ∙ was.2,
      )
      | in_default w ↦ (
        was.0,
        w.version-is ∙ was.1,
        version_further c.args.entries.now c.loop-entry.entry-index c.args.timestamp c.args.item.now was.0 c.entry-item.result None c.loop-entry-test.true c.entry-item.is
            (sym (ap option_copied w.in_default.is) ∙ c.written_below.ensures)
            ∙ was.2,
      )
    ]

pub returns : goal.returns
returns c base =
    let was = c.loop-entry.invariant base in
    was.1 ∙ ap (λ (v : ℕ × ItemValue). v.0) (version_found c.args.entries.now c.loop-entry.entry-index c.args.timestamp c.args.item.now was.0 c.loop-entry-test.false ∙ was.2)
