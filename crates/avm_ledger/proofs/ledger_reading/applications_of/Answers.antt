use Rattle.std.proofs.Common.{◌+◌, ◌-◌, arith}
use Rattle.std.proofs.lemmas.Result.{err_from_is_err_and}
use Rattle.avm_ledger.proofs.ApplicationsReading.{goes_on, no_id, no_application}
use Rattle.avm_ledger.proofs.ledger_reading.applications_of.Goals as goal

pub returns-in_err-id : goal.returns-in_err-id
returns-in_err-id c =
    let p = err_from_is_err_and c.from_residual.result c.from_residual.ensures.1 in
    rw (p.1, p.2) (no_id c.loop.applications.items c.loop.before c.args.next_id (c.args.count - c.loop.counter) c.loop.rest c.in_err-id.field-0.0 _ c.loop.invariant c.in_err-id.ensures (omega arith))

pub returns-in_err-application : goal.returns-in_err-application
returns-in_err-application c =
    let p = err_from_is_err_and c.from_residual-in_err-application.result c.from_residual-in_err-application.ensures.1 in
    rw (p.1, p.2) (no_application c.loop.applications.items c.loop.before c.args.next_id (c.args.count - c.loop.counter) c.loop.rest c.in_ok-id.id c.in_ok-id.next c.in_err-application.field-0.0 _ c.loop.invariant c.in_ok-id.ensures c.in_err-application.ensures (omega arith))

pub loop-preserved : goal.loop-preserved
loop-preserved c =
    goes_on c.loop.applications.items _ c.loop.before c.args.next_id (c.args.count - c.loop.counter) (c.args.count - (c.loop.counter + 1)) c.loop.rest c.in_ok-id.id c.in_ok-id.next c.in_ok-application.application c.in_ok-application.next _
    c.loop.invariant c.in_ok-id.ensures c.in_ok-application.ensures c.in_ok-push.ensures.items (omega arith)
