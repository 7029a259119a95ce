use Rattle.avm_block.proofs.BlockBack.{none_begins}
use Rattle.avm_block.proofs.reading_laws.none_begins_another.Goals as goal

pub returns : goal.returns
returns c = none_begins
