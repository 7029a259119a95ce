use Rattle.std.proofs.Common.{◌∙◌, arith}
use Rattle.std.specs.Arc.{arc_value}
use Rattle.avm_block.proofs.CallFront.{front_at_start}
use Rattle.avm_block.proofs.decoding.call_fields_of.Goals as goal

pub returns-in-Ok : goal.returns-in-Ok
returns-in-Ok c =
    front_at_start c.args.bytes.now _ (arc_value c.in-Ok.call) c.in-Ok.end (λ i. omega (arith, c.type_inv.bytes i)) c.in-Ok.ensures.exact (c.new.ensures ∙ c.split_at.ensures.back)
