use Rattle.std.proofs.Common.{arith}
use Rattle.avm_block.proofs.BlockRead.{is_block}
use Rattle.avm_block.proofs.decoding.block_of.Goals as goal

pub from_parts-requires : goal.from_parts-requires
from_parts-requires c = is_block c.args.bytes.now _ (λ i. omega (arith, c.type_inv.bytes i)) c.in_ok-parts.ensures
