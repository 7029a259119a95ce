use Rattle.std.proofs.Common.{arith}
use Rattle.teal_code.proofs.Reading.{rest_shorter}
use Rattle.teal_code.proofs.decode.decode_at.Goals as goal

pub overflow_sub-result : goal.overflow_sub-result
overflow_sub-result c = omega (arith, rest_shorter c.args.version c.split_at.result.1.now c.in_ok-instr.instr c.in_ok-instr.rest.now c.in_ok-instr.ensures, c.split_at.ensures.back_len)

pub returns-clause-forward : goal.returns-clause-forward
returns-clause-forward c =
    let shorter = rest_shorter c.args.version c.split_at.result.1.now c.in_ok-instr.instr c.in_ok-instr.rest.now c.in_ok-instr.ensures in
    (omega (arith, shorter, c.split_at.ensures.back_len), omega arith)
