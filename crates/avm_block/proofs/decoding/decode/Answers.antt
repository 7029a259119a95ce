use Rattle.std.proofs.Common.{arith}
use Rattle.avm_block.proofs.BlockRead.{encoding_of, only_its_block}
use Rattle.avm_block.proofs.decoding.decode.Goals as goal

pub returns-clause-encoded : goal.returns-clause-encoded
returns-clause-encoded c = encoding_of c.args.bytes.now c.block_of.result (λ i. omega (arith, c.type_inv.bytes i)) c.block_of.ensures

pub returns-clause-only : goal.returns-clause-only
returns-clause-only c = λ block is e. only_its_block c.args.bytes.now c.block_of.result block c.block_of.ensures is e
