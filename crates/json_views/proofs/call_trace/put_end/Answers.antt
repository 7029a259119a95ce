use Rattle.json_views.proofs.RunTraces.{end_written, ending_written}
use Rattle.json_views.proofs.Steps.{last, ◌then◌}
use Rattle.json_views.proofs.call_trace.put_end.Goals as goal

pub returns : goal.returns
returns c =
    last c.end_object.result c.end_object.ensures
    (λ ends. end_written c.args.stepper.now c.in-Ok.view c.args.ending.found c.args.ending.recorded _ _ c.in-Ok.ensures
    (c.in_ok-put_name.ensures then (rw c.deref.ensures.value at c.in_ok-put_global_delta.ensures) then c.in_ok-put_name-2.ensures then (rw c.deref-2.ensures.value at c.in_ok-put_local_deltas.ensures)
    then ending_written c.args.ending.found c.args.ending.recorded c.in_ok-put_ending.ensures ends))
