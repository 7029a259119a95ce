use Rattle.json_laws.proofs.BlocksBack.{shown_block_back}
use Rattle.json_laws.proofs.reading_back.shown_blocks_read_back.Goals as goal

pub returns : goal.returns
returns c = shown_block_back
