use Rattle.avm_ops.proofs.RowFacts as row
use Rattle.avm_ops.proofs.laws.tests_operands_first.Goals as goal

pub returns-clause-underflow : goal.returns-clause-underflow
returns-clause-underflow c = row.underflows

pub returns-clause-types : goal.returns-clause-types
returns-clause-types c = row.tests_types
