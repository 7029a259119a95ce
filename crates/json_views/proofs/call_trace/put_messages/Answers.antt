use Rattle.json_views.specs.Traces.{fault_message}
use Rattle.json_views.proofs.RunTraces.{messages_written}
use Rattle.json_views.proofs.Steps.{last, ◌then◌}
use Rattle.json_views.proofs.call_trace.put_messages.Goals as goal

pub returns : goal.returns
returns c =
    last c.end_array.result c.end_array.ensures
    (λ ends. c.in_ok-begin_array.ensures then (rw c.program_name.ensures at c.in_ok-put_text.ensures) then (rw c.verdict_word.ensures at c.in_ok-put_text-2.ensures)
    then messages_written (fault_message c.args.found) c.in_ok-put_fault.ensures ends)
