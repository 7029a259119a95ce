use Rattle.std.proofs.lemmas.Result.{err_from_is_err_and}
use Rattle.json_views.proofs.RunTraces.{trace_failure, trace_written}
use Rattle.json_views.proofs.Steps.{◌then◌}
use Rattle.json_views.proofs.call_trace.put_run_trace.Goals as goal

pub returns-in_err-put_run-clause-refused : goal.returns-in_err-put_run-clause-refused
returns-in_err-put_run-clause-refused g c =
    let p = err_from_is_err_and c.from_residual-in_err-put_run.result c.from_residual-in_err-put_run.ensures.1 in
    let messages = rw c.fields.ensures.fields at c.in_ok-put_messages.ensures in
    rw (p.1, p.2) (trace_failure c.args.stepper.now c.args.call.now c.args.ending.found c.args.ending.recorded c.args.out.now c.put_messages.new.out _ c.requires.start
    (c.in_ok-begin_object.ensures then c.in_ok-put_name.ensures then messages) c.in_err-put_run.ensures.refused)

pub returns-clause-written : goal.returns-clause-written
returns-clause-written g c =
    let messages = rw c.fields.ensures.fields at c.in_ok-put_messages.ensures in
    trace_written c.args.stepper.now c.put_run.new.stepper c.args.call.now c.args.ending.found c.args.ending.recorded c.args.out.now c.put_messages.new.out c.put_run.new.out c.put_end.new.out c.requires.start
    (c.in_ok-begin_object.ensures then c.in_ok-put_name.ensures then messages) c.in_ok-put_run.ensures.written c.in_ok-put_end.ensures
