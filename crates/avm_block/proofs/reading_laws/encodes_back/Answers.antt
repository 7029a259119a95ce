use Rattle.avm_block.proofs.BlockEncoded.{block_encoded}
use Rattle.avm_block.proofs.reading_laws.encodes_back.Goals as goal

pub returns : goal.returns
returns c = block_encoded
