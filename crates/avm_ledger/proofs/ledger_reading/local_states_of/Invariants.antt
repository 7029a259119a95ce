use Rattle.std.proofs.Common.{◌-◌, None}
use Rattle.avm_ledger.specs.LedgerReader.{local_states_at}
use Rattle.avm_ledger.proofs.LocalStatesReading.{ReadsOn}
use Rattle.avm_ledger.proofs.ledger_reading.local_states_of.Given as goal

abbrev pub invariant-loop : goal.invariant-loop
invariant-loop l = ReadsOn l.local_states.items l.before l.next_id l.applications.entries (l.count - l.counter) l.rest (local_states_at l.count None l.next_id l.applications.entries l.fn.fields)
