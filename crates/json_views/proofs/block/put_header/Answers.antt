use Rattle.json_views.proofs.Steps.{last, ◌then◌}
use Rattle.json_views.proofs.block.put_header.Goals as goal

pub returns : goal.returns
returns c =
    last c.put_uint_member-7.result c.put_uint_member-7.ensures
    (λ ends. c.in_ok-put_uint_member.ensures then c.in_ok-put_uint_member-2.ensures then c.in_ok-put_uint_member-3.ensures then c.in_ok-put_uint_member-4.ensures then c.in_ok-put_uint_member-5.ensures then (rw c.profile_number.ensures at c.in_ok-put_uint_member-6.ensures) then ends)
