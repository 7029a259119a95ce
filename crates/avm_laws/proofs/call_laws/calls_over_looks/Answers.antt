use Rattle.avm_laws.proofs.LedgerLooks.{calls_are_the_ledgers, ledgers_are_looks}
use Rattle.avm_laws.proofs.call_laws.calls_over_looks.Goals as goal

pub returns-clause-ledgers : goal.returns-clause-ledgers
returns-clause-ledgers c = ledgers_are_looks

pub returns-clause-calls : goal.returns-clause-calls
returns-clause-calls c = calls_are_the_ledgers
