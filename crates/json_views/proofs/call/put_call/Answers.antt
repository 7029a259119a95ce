use Rattle.json_views.proofs.MemberRuns.{in_object, ◌and◌}
use Rattle.json_views.proofs.Steps.{last}
use Rattle.json_views.proofs.call.put_call.Goals as goal

pub returns : goal.returns
returns c =
    last c.end_object.result c.end_object.ensures
    (λ ends. in_object c.in_ok-begin_object.ensures
    (c.in_ok-put_target.ensures and c.in_ok-put_application.ensures and c.in_ok-put_terms.ensures and c.in_ok-put_sender.ensures) ends)
