use Rattle.std.proofs.Common.{◌+◌, ◌-◌, arith}
use Rattle.std.proofs.lemmas.Result.{err_from_is_err_and}
use Rattle.avm_item_codec.proofs.ListReading.{goes_on, no_entry}
use Rattle.avm_item_codec.proofs.list_reading.many_of.Goals as goal

pub returns-in_err-item : goal.returns-in_err-item
returns-in_err-item c =
    let p = err_from_is_err_and c.from_residual.result c.from_residual.ensures.1 in
    rw (p.1, p.2) (no_entry c.loop.items (c.args.count - c.loop.counter) c.loop.rest c.in_err-item.field-0.0 _ c.loop.invariant c.in_err-item.ensures (omega arith))

pub loop-preserved : goal.loop-preserved
loop-preserved c =
    goes_on c.loop.items _ (c.args.count - c.loop.counter) (c.args.count - (c.loop.counter + 1)) c.loop.rest c.in_ok-item.item c.in_ok-item.value c.in_ok-item.next _ c.loop.invariant c.in_ok-item.ensures c.in_ok-insert.ensures.ok (omega arith)
