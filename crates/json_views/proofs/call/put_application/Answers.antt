use Rattle.json_views.proofs.MemberRuns.{◌and◌}
use Rattle.json_views.proofs.Steps.{last}
use Rattle.json_views.proofs.call.put_application.Goals as goal

pub returns : goal.returns
returns c =
    last c.put_bytes_if_any.result (rw c.as_slice.ensures at c.put_bytes_if_any.ensures)
    (λ ends. c.in_ok-put_schema_if_any.ensures and c.in_ok-put_uint_if_any.ensures and c.in_ok-put_schema_if_any-2.ensures and ends)
