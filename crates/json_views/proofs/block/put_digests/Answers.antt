use Rattle.json_views.proofs.Steps.{last, ◌then◌}
use Rattle.json_views.proofs.block.put_digests.Goals as goal

pub returns : goal.returns
returns c =
    last c.end_object.result c.end_object.ensures
    (λ ends. c.in_ok-begin_object.ensures then (rw (c.after.ensures, c.block.ensures) at c.in_ok-put_digits_member.ensures) then (rw (c.base.ensures, c.block-2.ensures) at c.in_ok-put_digits_member-2.ensures) then (rw c.digest.ensures at c.in_ok-put_digits_member-3.ensures) then (rw c.digest-2.ensures at c.in_ok-put_digits_member-4.ensures) then ends)
