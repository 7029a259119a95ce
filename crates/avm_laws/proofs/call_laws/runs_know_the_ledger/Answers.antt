use Rattle.avm_laws.proofs.KnownValues.{knows_the_ledger}
use Rattle.avm_laws.proofs.call_laws.runs_know_the_ledger.Goals as goal

pub returns : goal.returns
returns c = knows_the_ledger
