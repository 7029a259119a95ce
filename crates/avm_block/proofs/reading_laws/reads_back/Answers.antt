use Rattle.avm_block.proofs.BlockBack.{block_back}
use Rattle.avm_block.proofs.reading_laws.reads_back.Goals as goal

pub returns : goal.returns
returns c = block_back
