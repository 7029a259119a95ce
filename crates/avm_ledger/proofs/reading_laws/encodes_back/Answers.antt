use Rattle.avm_ledger.proofs.LedgerEncoded.{ledger_encoded}
use Rattle.avm_ledger.proofs.LedgerKept.{ledger_kept}
use Rattle.avm_ledger.proofs.reading_laws.encodes_back.Goals as goal

pub returns-clause-bytes : goal.returns-clause-bytes
returns-clause-bytes c = ledger_encoded

pub returns-clause-rules : goal.returns-clause-rules
returns-clause-rules c = ledger_kept
