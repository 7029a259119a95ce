-- The names of faults, which commands print and errors show.
use Rattle.std.specs.Prelude.{ℕ, List, codes}
use Rattle.avm_ledger.specs.declared.ledger_fault.LedgerFault.{LedgerFault}
use Rattle.avm_ledger.specs.declared.ledger_fault.LedgerFault.TheVariants as ledger

abbrev pub ledger_fault_name : LedgerFault → List ℕ
ledger_fault_name ledger.Malformed = codes "Malformed"
ledger_fault_name ledger.Truncated = codes "Truncated"
ledger_fault_name ledger.Rest = codes "Rest"
