use Rattle.std.proofs.Common.{◌∙◌, arith}
use Rattle.std.proofs.lemmas.List.{length-set}
use Rattle.avm_input.proofs.ReadPairs.{number_more}
use Rattle.avm_input.proofs.digits.block_numbers.Goals as goal

pub digits-preserved : goal.digits-preserved
digits-preserved c =
    let more = number_more c.args.digits.now c.digits.numbers c.args.place c.digits.i c.digits.most _ _ (omega (arith, c.digits-test.true, c.digits.invariant.0)) c.digit_number-number.ensures c.max-most.ensures c.digits.invariant.1 in
    (length-set c.digits.numbers c.digits.i c.digit_number-number.result ∙ c.digits.invariant.0, more)
