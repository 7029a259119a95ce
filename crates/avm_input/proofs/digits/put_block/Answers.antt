use Rattle.avm_input.proofs.ReadPairs.{block_more}
use Rattle.avm_input.proofs.digits.put_block.Goals as goal

pub returns-clause-read : goal.returns-clause-read
returns-clause-read c i begins ends = block_more c.args.digits.now _ c.args.bytes.now _ c.args.start i c.args.before _ _ begins ends c.block_numbers-most.ensures c.put_pairs.ensures.written c.max.ensures
