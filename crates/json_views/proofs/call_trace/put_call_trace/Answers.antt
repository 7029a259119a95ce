use Rattle.std.proofs.lemmas.Result.{err_from_is_err_and}
use Rattle.json_views.proofs.CallTraces.{by_stepper, failed_by_stepper, left_by, nothing_opened, without_run}
use Rattle.json_views.proofs.call_trace.put_call_trace.Goals as goal
use Rattle.json_views.proofs.call_trace.put_call_trace.Goals.{in-Ok+in_ok-put_run_trace-in-Ok, in-Err-Fault+in_ok-put_no_run-in-Err-Fault}

pub returns-in_err-put_run_trace-in-Ok-clause-refused : goal.returns-in_err-put_run_trace-in-Ok-clause-refused
returns-in_err-put_run_trace-in-Ok-clause-refused g c =
    let p = err_from_is_err_and c.from_residual-in_err-put_run_trace-in-Ok.result c.from_residual-in_err-put_run_trace-in-Ok.ensures.1 in
    rw (p.1, p.2) (failed_by_stepper c.args.ledger c.args.context.now.header.now (g.T.Traced.recorded c.args.traced.now) c.call-call.result.now c.outcome.result c.call-call.ensures c.outcome.ensures c.in-Ok.stepper c.args.out.now _ c.in-Ok.ensures.started
    c.in-Ok.ensures.program c.in_err-put_run_trace-in-Ok.ensures.refused)

pub returns-clause-after : goal.returns-clause-after
returns-clause-after g c =
    left_by c.args.ledger c.args.context.now.header.now (g.T.Traced.recorded c.args.traced.now) c.call-call.result.now c.outcome.result c.call-call.ensures c.outcome.ensures c.in_ok-found.after c.in_ok-found.ensures.after

pub returns-clause-written : goal.returns-clause-written
returns-clause-written g c =
    let l = c.args.ledger in
    let header = c.args.context.now.header.now in
    let traced = g.T.Traced.recorded c.args.traced.now in
    let call = c.call-call.result.now in
    let recorded = c.outcome.result in
    elim c.match-open.branch [
      | in-Ok+in_ok-put_run_trace-in-Ok w ↦
          rw w.out-is (by_stepper l header traced call recorded c.call-call.ensures c.outcome.ensures w.in-Ok.stepper c.args.out.now w.put_run_trace.new.out w.in-Ok.ensures.started w.in_ok-put_run_trace-in-Ok.ensures.written)
      | in-Err-Fault+in_ok-put_no_run-in-Err-Fault w ↦
          let none = nothing_opened l call w.in-Err-Fault._no_program (rw w.in-Err-Fault.field-0-is at w.in-Err-Fault.ensures.refused) in
          rw w.out-is (without_run l header traced call recorded c.call-call.ensures c.outcome.ensures c.in_ok-found.found c.args.out.now w.put_no_run.new.out none c.in_ok-found.ensures.outcome w.in_ok-put_no_run-in-Err-Fault.ensures)
    ]
