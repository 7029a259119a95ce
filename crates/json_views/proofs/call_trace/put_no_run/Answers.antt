use Rattle.json_views.proofs.RunTraces.{ending_written}
use Rattle.json_views.proofs.Steps.{last, ◌then◌}
use Rattle.json_views.proofs.call_trace.put_no_run.Goals as goal

pub returns : goal.returns
returns c =
    last c.end_object.result c.end_object.ensures
    (λ ends. c.in_ok-begin_object.ensures then c.in_ok-put_name.ensures then c.in_ok-begin_array.ensures then (rw (c.as_str.ensures.value, c.in_ok-words.ensures) at c.in_ok-put_text.ensures) then c.in_ok-end_array.ensures
    then c.in_ok-put_nothing.ensures then c.in_ok-put_budget.ensures then c.in_ok-put_nothing-2.ensures then c.in_ok-put_nothing-3.ensures then c.in_ok-put_nothing-4.ensures
    then ending_written c.args.ending.found c.args.ending.recorded c.in_ok-put_ending.ensures ends)
