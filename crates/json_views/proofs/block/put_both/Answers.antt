use Rattle.json_views.proofs.Steps.{last, ◌then◌}
use Rattle.json_views.proofs.block.put_both.Goals as goal

pub returns : goal.returns
returns c =
    last c.end_object.result c.end_object.ensures
    (λ ends. c.in_ok-begin_object.ensures then c.in_ok-put_name.ensures then (rw c.ledger-ledger.ensures at c.in_ok-put_accounts.ensures) then c.in_ok-put_name-2.ensures then (rw c.ledger-ledger.ensures at c.in_ok-put_applications.ensures) then c.in_ok-put_name-3.ensures then c.in_ok-put_digests.ensures then (rw (c.header.ensures, c.block.ensures, c.next_id.ensures, c.ledger-ledger.ensures) at c.in_ok-put_header.ensures) then c.in_ok-put_name-4.ensures then (rw (c.entries.ensures.entries, c.block-2.ensures) at c.in_ok-put_entries.ensures) then ends)
