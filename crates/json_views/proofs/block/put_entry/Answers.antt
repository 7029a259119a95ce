use Rattle.json_views.proofs.Steps.{last, ◌then◌}
use Rattle.json_views.proofs.block.put_entry.Goals as goal

pub returns : goal.returns
returns c =
    last c.end_object.result c.end_object.ensures
    (λ ends. c.in_ok-begin_object.ensures then (rw (c.as_str.ensures.value, c.in_ok-outcome.ensures) at c.in_ok-put_text_member.ensures) then c.in_ok-put_uint_member.ensures then c.in_ok-put_name.ensures then (rw c.fields.ensures.fields at c.in_ok-put_call.ensures) then ends)
