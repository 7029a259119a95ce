use Rattle.avm_ops.proofs.RowFacts.{leaves_its_row}
use Rattle.avm_ops.proofs.laws.leaves_its_row.Goals as goal

pub returns : goal.returns
returns c = leaves_its_row
