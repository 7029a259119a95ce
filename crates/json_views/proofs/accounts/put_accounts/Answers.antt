use Rattle.std.proofs.Common.{◌∙◌, ap, map}
use Rattle.json_views.specs.Accounts.{local_of, locals_name, shown_local}
use Rattle.json_views.proofs.AccountRuns.{begins}
use Rattle.json_views.proofs.accounts.put_accounts.Goals as goal

pub loop-key-init : goal.loop-key-init
loop-key-init c = begins locals_name shown_local (ap (map local_of) (c.into_iter-key-iterator.ensures.into_iter_gives ∙ c.local_states-key-items.ensures.rest)) c.in_ok-begin_array.ensures
