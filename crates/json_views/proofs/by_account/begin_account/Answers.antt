use Rattle.json_views.proofs.Steps.{last, ◌then◌}
use Rattle.json_views.proofs.by_account.begin_account.Goals as goal

pub returns : goal.returns
returns c =
    last c.begin_array.result c.begin_array.ensures
    (λ ends. c.in_ok-begin_object.ensures then c.in_ok-put_address_member.ensures then c.in_ok-put_name.ensures then ends)
