use Rattle.std.proofs.Common.{map, subst}
use Rattle.std.proofs.lemmas.Result.{err_from_is_err_and}
use Rattle.json_views.proofs.CallTraces.{Left, all_left, failed_at, left_behind, long_now, none_left, written_at}
use Rattle.json_views.proofs.trace.put_call_traces.Goals as goal

pub loop-traced-init : goal.loop-traced-init
loop-traced-init g c = record { left = all_left c.args.ledger c.args.context.now.header.now (map g.T.Traced.recorded c.args.calls.now) c.args.out.now c.begin_array.new.out c.in_ok-begin_array.ensures }

pub returns-in_err-ledger-clause-refused : goal.returns-in_err-ledger-clause-refused
returns-in_err-ledger-clause-refused g c =
    let p = err_from_is_err_and c.from_residual-in_err-ledger.result c.from_residual-in_err-ledger.ensures.1 in
    rw (p.1, p.2) (failed_at g.T.Traced.recorded c.args.calls.now c.loop-traced.traced-index c.traced-item.result c.loop-traced-test.true c.traced-item.is c.args.ledger c.args.context.now.header.now c.args.out.now c.loop-traced.ledger c.loop-traced.out c.loop-traced.invariant.left _ c.in_err-ledger.ensures.refused)

pub returns-then-is_too_long-clause-refused : goal.returns-then-is_too_long-clause-refused
returns-then-is_too_long-clause-refused g c =
    long_now c.args.ledger c.args.context.now.header.now (map g.T.Traced.recorded c.args.calls.now) c.args.out.now _ c.put_call_trace.new.out _
    (written_at g.T.Traced.recorded c.args.calls.now c.loop-traced.traced-index c.traced-item.result c.loop-traced-test.true c.traced-item.is c.args.ledger c.args.context.now.header.now c.args.out.now c.loop-traced.ledger c.loop-traced.out c.loop-traced.invariant.left _ c.put_call_trace.new.out c.in_ok-ledger.ensures.written c.in_ok-ledger.ensures.after) (c.is_too_long.ensures c.if-is_too_long.true)

pub loop-traced-preserved : goal.loop-traced-preserved
loop-traced-preserved g c =
    record { left = written_at g.T.Traced.recorded c.args.calls.now c.loop-traced.traced-index c.traced-item.result c.loop-traced-test.true c.traced-item.is c.args.ledger c.args.context.now.header.now c.args.out.now c.loop-traced.ledger c.loop-traced.out c.loop-traced.invariant.left _ c.put_call_trace.new.out c.in_ok-ledger.ensures.written c.in_ok-ledger.ensures.after }

pub returns-clause-written : goal.returns-clause-written
returns-clause-written g c =
    let header = c.args.context.now.header.now in
    let recorded = g.T.Traced.recorded in
    let all = map recorded c.args.calls.now in
    let left = subst (λ calls. Left c.args.ledger header all c.args.out.now c.loop-traced.ledger calls c.loop-traced.out) (left_behind recorded c.args.calls.now c.loop-traced.traced-index c.loop-traced-test.false) c.loop-traced.invariant.left in
    none_left c.args.ledger header all c.args.out.now c.loop-traced.ledger c.loop-traced.out c.end_array.new.out left c.in_ok-end_array.ensures
