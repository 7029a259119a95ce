use Rattle.avm_laws.proofs.ReadCalls.{changes_what_it_read, ends_alike}
use Rattle.avm_laws.proofs.call_laws.reads_decide.Goals as goal

pub returns-clause-result : goal.returns-clause-result
returns-clause-result c = ends_alike

pub returns-clause-changes : goal.returns-clause-changes
returns-clause-changes c = changes_what_it_read
