use Rattle.std.proofs.Common.{◌+◌, ◌-◌, arith}
use Rattle.std.specs.Int.{w64}
use Rattle.std.proofs.lemmas.Result.{err_from_is_err_and}
use Rattle.avm_ledger.specs.FieldReader.{number_at}
use Rattle.avm_ledger.proofs.ManyReading.{goes_on, no_more}
use Rattle.avm_call_codec.specs.declared.call_data_fault.CallDataFault.TheVariants.{Truncated}
use Rattle.avm_call_codec.proofs.reading.many_uints.Goals as goal

pub loop-preserved : goal.loop-preserved
loop-preserved c = goes_on (number_at Truncated w64) c.loop.numbers.items _ (c.args.count - c.loop.counter) (c.args.count - (c.loop.counter + 1)) c.loop.rest _ _ _ c.loop.invariant c.in_ok-number.ensures.value c.in_ok-push.ensures.items (omega arith)

pub returns-in_err-number : goal.returns-in_err-number
returns-in_err-number c =
    let p = err_from_is_err_and c.from_residual.result c.from_residual.ensures.1 in
    rw (p.1, p.2) (no_more (number_at Truncated w64) c.loop.numbers.items (c.args.count - c.loop.counter) c.loop.rest c.in_err-number.field-0.0 _ c.loop.invariant c.in_err-number.ensures.value (omega arith))
