use Rattle.std.proofs.Common.{refl}
use Rattle.hex.specs.Hex.{encode_lower}
use Rattle.avm_input.proofs.Written.{first_begun, second_begun}
use Rattle.avm_input.proofs.replies.write_digits_reply.Goals as goal

pub returns-then-not-write_digits-clause-begun : goal.returns-then-not-write_digits-clause-begun
returns-then-not-write_digits-clause-begun g c = first_begun _ _ (encode_lower c.args.bytes.now) c.args.text.now c.write_digits.ensures.begun

pub returns-clause-begun : goal.returns-clause-begun
returns-clause-begun g c = second_begun _ _ _ (encode_lower c.args.bytes.now) c.args.text.now (c.if-not-write_digits.ensures.written refl) c.write_reply.ensures.begun
