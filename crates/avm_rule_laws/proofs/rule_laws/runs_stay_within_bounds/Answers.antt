use Rattle.avm_rule_laws.proofs.BoundedCalls.{runs_stay_within_bounds}
use Rattle.avm_rule_laws.proofs.rule_laws.runs_stay_within_bounds.Goals as goal

pub returns : goal.returns
returns c = runs_stay_within_bounds
