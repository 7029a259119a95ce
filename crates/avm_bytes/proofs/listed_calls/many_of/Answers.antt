use Rattle.std.proofs.Common.{◌+◌, ◌-◌, arith}
use Rattle.std.proofs.lemmas.Result.{err_from_is_err_and}
use Rattle.avm_bytes.proofs.ListedCalls.{goes_on, no_call_there}
use Rattle.avm_bytes.proofs.listed_calls.many_of.Goals as goal

pub returns-in_err-call : goal.returns-in_err-call
returns-in_err-call c =
    let p = err_from_is_err_and c.from_residual.result c.from_residual.ensures.1 in
    rw (p.1, p.2) (no_call_there c.args.bytes.now c.loop-index.calls.items _ (c.args.count - c.loop-index.index) c.loop-index.place c.in_err-call.field-0.0 _ c.loop-index.invariant (rw c.from.ensures at c.in_err-call.ensures) (omega arith))

pub loop-index-preserved : goal.loop-index-preserved
loop-index-preserved c =
    goes_on c.args.bytes.now c.loop-index.calls.items _ _ (c.args.count - c.loop-index.index) (c.args.count - (c.loop-index.index + 1)) c.loop-index.place c.in_ok-call.call c.in_ok-call.next _ c.loop-index.invariant (rw c.from.ensures at c.in_ok-call.ensures) c.in_ok-push.ensures.items (omega arith)
