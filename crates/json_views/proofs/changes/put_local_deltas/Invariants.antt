use Rattle.std.proofs.Common.{◌≡◌, ◌++◌, drop, map}
use Rattle.json.specs.Tree.{json_tokens}
use Rattle.avm_stepper.specs.Changes.{local_seen}
use Rattle.json_views.proofs.AccountRuns.{remaining}
use Rattle.json_views.specs.Changes.{account_change, delta_name, shown_change, shown_local_deltas}
use Rattle.json_views.proofs.changes.put_local_deltas.Given as goal

-- what is written, and what is to be written of the changes that are left, are the accounts
abbrev pub invariant-loop-change : goal.invariant-loop-change
invariant-loop-change l = l.out ++ remaining delta_name shown_change l.current (map account_change (local_seen (drop l.change-index l.changes))) ≡ l.fn.out ++ json_tokens (shown_local_deltas (local_seen l.changes))
