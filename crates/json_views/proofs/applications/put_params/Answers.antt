use Rattle.json_views.proofs.Steps.{last, ◌then◌}
use Rattle.json_views.proofs.applications.put_params.Goals as goal

pub returns : goal.returns
returns c =
    let row = c.get-row.ensures in
    last c.end_object.result c.end_object.ensures
    (λ ends. c.in_ok-begin_object.ensures then (rw (c.as_slice.ensures, row) at c.in_ok-put_base64_member.ensures) then (rw (c.as_slice-2.ensures, row) at c.in_ok-put_base64_member-2.ensures) then (rw row at c.in_ok-put_address_member.ensures) then c.in_ok-put_name.ensures then c.in_ok-put_state.ensures then c.in_ok-put_name-2.ensures then (rw row at c.in_ok-put_schema.ensures) then c.in_ok-put_name-3.ensures then (rw row at c.in_ok-put_schema-2.ensures) then ends)
