use Rattle.avm_items.proofs.RulesKept.{empty_keeps, rules_stay, all_stay}
use Rattle.avm_items.proofs.rule_laws.rules_stay.Goals as goal

pub returns-clause-empty : goal.returns-clause-empty
returns-clause-empty c = empty_keeps

pub returns-clause-one : goal.returns-clause-one
returns-clause-one c = rules_stay

pub returns-clause-all : goal.returns-clause-all
returns-clause-all c = all_stay
