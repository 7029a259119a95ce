use Rattle.json_views.proofs.MemberRuns.{◌and◌}
use Rattle.json_views.proofs.Steps.{last}
use Rattle.json_views.proofs.call.put_terms.Goals as goal

pub returns : goal.returns
returns c =
    last c.put_authority.result c.put_authority.ensures
    (λ ends. c.in_ok-put_uint_if_any.ensures and c.in_ok-put_uint_if_any-2.ensures and c.in_ok-put_uint_if_any-3.ensures and c.in_ok-put_lease.ensures and (rw c.as_slice.ensures at c.in_ok-put_bytes_if_any.ensures) and ends)
