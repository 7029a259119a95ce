use Rattle.std.proofs.Common.{◌-◌, None}
use Rattle.std.specs.Option.{option_copied}
use Rattle.avm_ledger.specs.LedgerReader.{entries_at}
use Rattle.avm_ledger.proofs.EntriesReading.{ReadsOn}
use Rattle.avm_ledger.proofs.state_reading.entries_of.Given as goal

abbrev pub invariant-loop : goal.invariant-loop
invariant-loop l = ReadsOn l.state (option_copied l.before) l.left (l.count - l.counter) l.rest (entries_at l.count None l.fn.kinds l.fn.fields)
