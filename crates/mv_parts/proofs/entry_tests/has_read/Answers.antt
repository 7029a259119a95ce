use Rattle.std.proofs.Common.{◌≡◌, ◌&&◌, ◌==◌, Some, nat_eq, sym, ap, ◌∙◌}
use Rattle.std.specs.Prelude.{is_some}
use Rattle.std.specs.Map.{lookup}
use Rattle.std.specs.Option.{option_copied}
use Rattle.avm_items.specs.LedgerItems.{at}
use Rattle.mv_history.specs.History.{version_below}
use Rattle.mv_parts.specs.CallHistory.{same_item}
use Rattle.mv_parts.specs.Journals.{version_read}
use Rattle.mv_parts.proofs.entry_tests.has_read.Goals as goal

pub returns-in-Some : goal.returns-in-Some
returns-in-Some c base =
    let found : lookup (same_item c.args.item.now) c.args.entry.now.reads ≡ Some c.in-Some._read.now =
    sym (ap (lookup (same_item c.args.item.now)) c.reads.ensures.read) ∙ sym c.value_of.ensures ∙ ap option_copied c.in-Some.is in
    let version : c.version_below.result ≡ version_read base c.args.entries.now c.args.entry.now c.args.item.now =
    c.version_below.ensures (at base) ∙ ap (λ t. (version_below same_item (at base) c.args.entries.now t c.args.item.now).0) c.timestamp.ensures in
    ap (λ n. nat_eq n c.args.version) version ∙ sym (ap (λ o. is_some o && (version_read base c.args.entries.now c.args.entry.now c.args.item.now == c.args.version)) found)
