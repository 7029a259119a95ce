use Rattle.std.proofs.Common.{arith}
use Rattle.std.specs.Arc.{arc_value}
use Rattle.avm_call_codec.proofs.CallRead.{encoding_of, only_its_call}
use Rattle.avm_call_codec.proofs.codec.CallDataCallCodec.shared_read.Goals as goal

pub returns-clause-encoded : goal.returns-clause-encoded
returns-clause-encoded c = encoding_of arc_value c.args.bytes.now c.shared_alone.result (λ i. omega (arith, c.type_inv.bytes i)) c.shared_alone.ensures

pub returns-clause-only : goal.returns-clause-only
returns-clause-only c = λ call fields e. only_its_call arc_value c.args.bytes.now c.shared_alone.result call c.shared_alone.ensures fields e
