use Rattle.json_views.proofs.Steps.{last, ◌then◌}
use Rattle.json_views.proofs.accounts.put_local.Goals as goal

pub returns : goal.returns
returns c =
    last c.end_object.result c.end_object.ensures
    (λ ends. c.in_ok-begin_object.ensures then c.in_ok-put_uint_member.ensures then c.in_ok-put_name.ensures then c.in_ok-put_state.ensures then ends)
