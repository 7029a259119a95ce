use Rattle.avm_laws.proofs.CallChanges.{hands_on_its_changes, loses_no_write}
use Rattle.avm_laws.proofs.call_laws.changes_are_handed_on.Goals as goal

pub returns-clause-changes : goal.returns-clause-changes
returns-clause-changes c = hands_on_its_changes

pub returns-clause-all : goal.returns-clause-all
returns-clause-all c = loses_no_write
