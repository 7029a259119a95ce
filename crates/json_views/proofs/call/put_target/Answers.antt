use Rattle.json_views.proofs.MemberRuns.{◌and◌}
use Rattle.json_views.proofs.Steps.{last}
use Rattle.json_views.proofs.call.put_target.Goals as goal

pub returns : goal.returns
returns c =
    last c.put_uint_list.result (rw c.as_slice-4.ensures at c.put_uint_list.ensures)
    (λ ends. (rw c.as_slice.ensures at c.in_ok-put_bytes_list.ensures) and (rw (c.from.ensures, c.number.ensures) at c.in_ok-put_uint_if_any.ensures) and (rw c.as_slice-2.ensures at c.in_ok-put_bytes_if_any.ensures) and (rw c.as_slice-3.ensures at c.in_ok-put_address_list.ensures) and ends)
