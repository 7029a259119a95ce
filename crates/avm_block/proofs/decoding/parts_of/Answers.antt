use Rattle.std.proofs.Common.{sym, ap, ◌∙◌, arith}
use Rattle.avm_block.specs.AcceptedCalls.{is_accepted}
use Rattle.avm_block.specs.BlockReader.{body_at}
use Rattle.avm_block.proofs.BlockRead.{body_within}
use Rattle.avm_block.proofs.decoding.parts_of.Goals as goal

pub overflow_sub-bytes : goal.overflow_sub-bytes
overflow_sub-bytes c =
    let within = body_within c.args.bytes.now _ c.in_ok-parts.rest (λ i. omega (arith, c.type_inv.bytes i)) (ap (body_at is_accepted) (sym c.new.ensures) ∙ c.in_ok-parts.ensures) in
    omega (arith, within, c.len.ensures)
