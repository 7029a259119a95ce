use Rattle.json_views.proofs.Steps.{last, ◌then◌}
use Rattle.json_views.proofs.ledger.put_ledger.Goals as goal

pub returns : goal.returns
returns c =
    last c.end_object-2.result c.end_object-2.ensures
    (λ ends. c.in_ok-begin_object.ensures then c.in_ok-put_name.ensures then (rw c.ledger-ledger.ensures at c.in_ok-put_accounts.ensures) then c.in_ok-put_name-2.ensures then (rw c.ledger-ledger.ensures at c.in_ok-put_applications.ensures) then c.in_ok-put_name-3.ensures then c.in_ok-begin_object-2.ensures then (rw c.digest.ensures at c.in_ok-put_digits_member.ensures) then c.in_ok-end_object.ensures then (rw (c.next_id.ensures, c.ledger-ledger.ensures) at c.in_ok-put_uint_member.ensures) then ends)
