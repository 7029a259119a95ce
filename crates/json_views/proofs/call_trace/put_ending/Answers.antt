use Rattle.json_views.proofs.Steps.{last, ◌then◌}
use Rattle.json_views.proofs.call_trace.put_ending.Goals as goal

pub returns-in-Some : goal.returns-in-Some
returns-in-Some c = last c.put_outcome-in-Some.result c.put_outcome-in-Some.ensures (λ recorded. rw c.in-Some.is (c.in_ok-put_outcome.ensures then recorded))
