use Rattle.std.specs.Prelude.{◌≡◌, max, drop}
use Rattle.avm_ledger.specs.Ledgers.{Ledger}
use Rattle.mv_parts.specs.Journals.{greatest_among, greatest_reader, has_read}
use Rattle.mv_parts.proofs.entry_tests.greatest_reader.Given as goal

-- the greatest of the entries before
abbrev pub invariant-loop-entry : goal.invariant-loop-entry
invariant-loop-entry l = (base : Ledger) → max l.greatest (greatest_among (has_read base l.entries l.item l.version) (drop l.entry-index l.entries)) ≡ greatest_reader base l.entries l.item l.version
