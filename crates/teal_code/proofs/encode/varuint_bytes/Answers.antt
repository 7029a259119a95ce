use Rattle.std.proofs.Common.{arith}
use Rattle.teal_code.proofs.VaruintWriting.{begins, goes_on, is_done}
use Rattle.teal_code.proofs.encode.varuint_bytes.Goals as goal

pub loop-rest-init : goal.loop-rest-init
loop-rest-init c = begins _ c.args.number (omega arith) c.new-bytes.ensures

pub loop-rest-preserved : goal.loop-rest-preserved
loop-rest-preserved c = goes_on c.loop-rest.bytes.items _ c.loop-rest.rest _ (omega arith) c.loop-rest.invariant c.push.ensures.items

pub returns : goal.returns
returns c = is_done c.loop-rest.bytes.items _ c.loop-rest.rest _ (omega arith) c.loop-rest.invariant c.push-2.ensures.items
