use Rattle.std.proofs.Common.{◌+◌, ◌-◌, arith}
use Rattle.std.proofs.lemmas.Result.{err_from_is_err_and}
use Rattle.avm_ledger.specs.FieldReader.{address_at}
use Rattle.avm_ledger.proofs.ManyReading.{goes_on, no_more}
use Rattle.avm_call_codec.specs.declared.call_data_fault.CallDataFault.TheVariants.{Truncated}
use Rattle.avm_call_codec.proofs.reading.many_addresses.Goals as goal

pub loop-preserved : goal.loop-preserved
loop-preserved c = goes_on (address_at Truncated) c.loop.addresses.items _ (c.args.count - c.loop.counter) (c.args.count - (c.loop.counter + 1)) c.loop.rest _ _ _ c.loop.invariant c.in_ok-address.ensures c.in_ok-push.ensures.items (omega arith)

pub returns-in_err-address : goal.returns-in_err-address
returns-in_err-address c =
    let p = err_from_is_err_and c.from_residual.result c.from_residual.ensures.1 in
    rw (p.1, p.2) (no_more (address_at Truncated) c.loop.addresses.items (c.args.count - c.loop.counter) c.loop.rest c.in_err-address.field-0.0 _ c.loop.invariant c.in_err-address.ensures (omega arith))
