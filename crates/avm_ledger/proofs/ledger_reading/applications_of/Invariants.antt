use Rattle.std.proofs.Common.{◌-◌}
use Rattle.avm_ledger.specs.LedgerReader.{applications_at}
use Rattle.avm_ledger.proofs.ApplicationsReading.{ReadsOn}
use Rattle.avm_ledger.proofs.ledger_reading.applications_of.Given as goal

abbrev pub invariant-loop : goal.invariant-loop
invariant-loop l = ReadsOn l.applications.items l.before l.next_id (l.count - l.counter) l.rest (applications_at l.count 0 l.next_id l.fn.fields)
