use Rattle.std.proofs.Common.{arith}
use Rattle.avm_call_codec.proofs.CallRead.{encoding_of, only_its_call}
use Rattle.avm_call_codec.proofs.codec.CallDataCallCodec.read.Goals as goal

pub returns-clause-encoded : goal.returns-clause-encoded
returns-clause-encoded c = encoding_of (λ call. call) c.args.bytes.now c.call_alone.result (λ i. omega (arith, c.type_inv.bytes i)) c.call_alone.ensures

pub returns-clause-only : goal.returns-clause-only
returns-clause-only c = λ call fields e. only_its_call (λ call. call) c.args.bytes.now c.call_alone.result call c.call_alone.ensures fields e
