use Rattle.json_laws.proofs.LedgersBack.{empty_document_read, shown_ledger_back}
use Rattle.json_laws.proofs.reading_back.shown_ledgers_read_back.Goals as goal

pub returns-clause-shown : goal.returns-clause-shown
returns-clause-shown c = shown_ledger_back

pub returns-clause-empty : goal.returns-clause-empty
returns-clause-empty c = empty_document_read
