use Rattle.std.proofs.Common.{refl}
use Rattle.json_views.proofs.AccountRuns.{begins}
use Rattle.json_views.specs.Changes.{delta_name, shown_change}
use Rattle.json_views.proofs.changes.put_local_deltas.Goals as goal

pub loop-change-init : goal.loop-change-init
loop-change-init c = begins delta_name shown_change refl c.in_ok-begin_array.ensures
