use Rattle.std.proofs.Common.{◌∙◌, sym, ap, arith}
use Rattle.std.specs.Arc.{arc_value}
use Rattle.avm_call_codec.specs.CallReader.{call_front}
use Rattle.avm_call_codec.proofs.CallRead.{rest_shorter}
use Rattle.avm_call_codec.proofs.codec.CallDataCallCodec.shared_front.Goals as goal

pub overflow_sub-result : goal.overflow_sub-result
overflow_sub-result c =
    let shorter = rest_shorter c.args.bytes.now c.args.place c.split_at.result.1.now (arc_value c.in_ok-call.call) c.in_ok-call.rest (λ i. omega (arith, c.type_inv.bytes i)) c.split_at.ensures.back (ap call_front (sym c.new.ensures) ∙ c.in_ok-call.ensures) in
    omega (arith, shorter, c.split_at.ensures.back_len, c.len.ensures)

pub returns-clause-forward : goal.returns-clause-forward
returns-clause-forward c =
    let shorter = rest_shorter c.args.bytes.now c.args.place c.split_at.result.1.now (arc_value c.in_ok-call.call) c.in_ok-call.rest (λ i. omega (arith, c.type_inv.bytes i)) c.split_at.ensures.back (ap call_front (sym c.new.ensures) ∙ c.in_ok-call.ensures) in
    (omega (arith, shorter, c.split_at.ensures.back_len, c.len.ensures), omega arith)
