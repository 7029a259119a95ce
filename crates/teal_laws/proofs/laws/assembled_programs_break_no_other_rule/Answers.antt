use Rattle.teal_laws.proofs.TextMeaning.{only_cost, dear}
use Rattle.teal_laws.proofs.laws.assembled_programs_break_no_other_rule.Goals as goal

pub returns-clause-only_cost : goal.returns-clause-only_cost
returns-clause-only_cost c = only_cost

pub returns-clause-dear : goal.returns-clause-dear
returns-clause-dear c = dear
