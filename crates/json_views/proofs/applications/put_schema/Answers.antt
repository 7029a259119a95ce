use Rattle.json_views.proofs.Steps.{last, ◌then◌}
use Rattle.json_views.proofs.applications.put_schema.Goals as goal

pub returns : goal.returns
returns c =
    last c.end_object.result c.end_object.ensures
    (λ ends. c.in_ok-begin_object.ensures then (rw c.from.ensures at c.in_ok-put_uint_member.ensures) then (rw c.from-2.ensures at c.in_ok-put_uint_member-2.ensures) then ends)
