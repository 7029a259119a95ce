use Rattle.avm_node.proofs.CallParts.{in_two_parts}
use Rattle.avm_node.proofs.call_lines.by_four.Goals as goal

pub returns : goal.returns
returns g c =
    in_two_parts (λ calls. calls.items) c.args.number c.args.lines.now c.split_at.result.0.now c.split_at.result.1.now c.join-first.result.0 c.join-first.result.1 _ c.split_at.ensures.by_index.0
    c.join-first.ensures.first c.join-first.ensures.second c.together.ensures
