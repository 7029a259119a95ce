use Rattle.avm_call.proofs.Unapproved.{unapproved_writes, ends_by_completion, unapproved_changes, unapproved_keeps}
use Rattle.avm_call.proofs.rule_laws.unapproved_calls.Goals as goal

pub returns-clause-writes : goal.returns-clause-writes
returns-clause-writes c = unapproved_writes

pub returns-clause-kinds : goal.returns-clause-kinds
returns-clause-kinds c = ends_by_completion

pub returns-clause-changes : goal.returns-clause-changes
returns-clause-changes c = unapproved_changes

pub returns-clause-rules : goal.returns-clause-rules
returns-clause-rules c = unapproved_keeps
