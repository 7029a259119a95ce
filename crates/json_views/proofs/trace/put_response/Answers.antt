use Rattle.std.proofs.Common.{map}
use Rattle.std.proofs.lemmas.Result.{err_from_is_err_and}
use Rattle.json_views.proofs.CallTraces.{response_failure, response_written}
use Rattle.json_views.proofs.Steps.{◌then◌}
use Rattle.json_views.proofs.trace.put_response.Goals as goal

pub returns-in_err-put_call_traces-clause-refused : goal.returns-in_err-put_call_traces-clause-refused
returns-in_err-put_call_traces-clause-refused g c =
    let p = err_from_is_err_and c.from_residual-in_err-put_call_traces.result c.from_residual-in_err-put_call_traces.ensures.1 in
    rw (p.1, p.2) (response_failure c.args.ledger c.args.context.now.header.now (map g.T.Traced.recorded c.args.calls.now) c.args.out.now c.put_name.new.out _
    (c.in_ok-put_text_member.ensures then c.in_ok-put_text_member-2.ensures then c.in_ok-put_name.ensures) c.in_err-put_call_traces.ensures.refused)

pub returns-clause-written : goal.returns-clause-written
returns-clause-written g c =
    response_written c.args.ledger c.args.context.now.header.now (map g.T.Traced.recorded c.args.calls.now) c.args.out.now c.put_name.new.out c.put_call_traces.new.out c.end_object.new.out
    (c.in_ok-put_text_member.ensures then c.in_ok-put_text_member-2.ensures then c.in_ok-put_name.ensures) c.in_ok-put_call_traces.ensures.written c.in_ok-end_object.ensures
