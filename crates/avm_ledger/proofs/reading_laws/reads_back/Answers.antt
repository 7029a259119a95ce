use Rattle.avm_ledger.proofs.LedgerBack.{ledger_back, ledger_back_alone}
use Rattle.avm_ledger.proofs.reading_laws.reads_back.Goals as goal

pub returns-clause-front : goal.returns-clause-front
returns-clause-front c = ledger_back

pub returns-clause-alone : goal.returns-clause-alone
returns-clause-alone c = ledger_back_alone
