use Rattle.avm_laws.proofs.Given.{puts_changes}
use Rattle.avm_laws.proofs.ledger_laws.changes_lead_on.Goals as goal

pub returns : goal.returns
returns c = puts_changes
