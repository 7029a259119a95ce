use Rattle.avm_ledger.proofs.LedgerBack.{none_begins}
use Rattle.avm_ledger.proofs.reading_laws.none_begins_another.Goals as goal

pub returns : goal.returns
returns c = none_begins
