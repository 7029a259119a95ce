use Rattle.teal_laws.proofs.ProgramRules.{program_rules, accepted, one_program}
use Rattle.teal_laws.proofs.laws.checked_programs_keep_the_rules.Goals as goal

pub returns-clause-checked : goal.returns-clause-checked
returns-clause-checked c = program_rules

pub returns-clause-accepted : goal.returns-clause-accepted
returns-clause-accepted c = accepted

pub returns-clause-one : goal.returns-clause-one
returns-clause-one c = one_program
