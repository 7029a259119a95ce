use Rattle.teal_laws.proofs.OneFault.{is_first_fault}
use Rattle.teal_laws.proofs.TextFaults.{has_meaning}
use Rattle.teal_laws.proofs.laws.meant_texts_keep_the_rules.Goals as goal

pub returns-clause-meant : goal.returns-clause-meant
returns-clause-meant c = has_meaning

pub returns-clause-fault : goal.returns-clause-fault
returns-clause-fault c = is_first_fault
