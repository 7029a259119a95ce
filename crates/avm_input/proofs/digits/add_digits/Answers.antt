use Rattle.std.proofs.Common.{sym}
use Rattle.avm_input.proofs.WrittenDigits.{block_more, byte_more, no_more}
use Rattle.avm_input.proofs.digits.add_digits.Goals as goal

pub loop-rest-preserved : goal.loop-rest-preserved
loop-rest-preserved c =
    block_more c.loop-rest.line.items _ _ _ _ _ _ c.in_ok-extend_from_slice.ensures.items c.block_digits.ensures (sym c.split_at.ensures.by_index.0) c.loop-rest.invariant

pub loop-byte-preserved : goal.loop-byte-preserved
loop-byte-preserved c =
    byte_more c.loop-byte.line.items _ _ _ _ c.in-Some.byte.now c.in-Some.back.now _ _ c.in_ok-push.ensures.items c.in_ok-push-2.ensures.items c.lower_digit.ensures c.lower_digit-in-Some.ensures c.in-Some.ensures.cases.0 c.loop-byte.invariant

pub returns : goal.returns
returns c = no_more c.loop-byte.line.items _ _ c.in_default.ensures.cases c.loop-byte.invariant
