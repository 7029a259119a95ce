use Rattle.std.proofs.Common.{◌+◌, ◌-◌, arith}
use Rattle.std.proofs.lemmas.Result.{err_from_is_err_and}
use Rattle.avm_ledger.specs.FieldReader.{string_at}
use Rattle.avm_ledger.proofs.ManyReading.{goes_on, no_more}
use Rattle.avm_call_codec.specs.declared.call_data_fault.CallDataFault.TheVariants.{Truncated}
use Rattle.avm_call_codec.proofs.reading.many_strings.Goals as goal

pub loop-preserved : goal.loop-preserved
loop-preserved c = goes_on (string_at Truncated) c.loop.strings.items _ (c.args.count - c.loop.counter) (c.args.count - (c.loop.counter + 1)) c.loop.rest _ _ _ c.loop.invariant c.in_ok-string.ensures c.in_ok-push.ensures.items (omega arith)

pub returns-in_err-string : goal.returns-in_err-string
returns-in_err-string c =
    let p = err_from_is_err_and c.from_residual.result c.from_residual.ensures.1 in
    rw (p.1, p.2) (no_more (string_at Truncated) c.loop.strings.items (c.args.count - c.loop.counter) c.loop.rest c.in_err-string.field-0.0 _ c.loop.invariant c.in_err-string.ensures (omega arith))
