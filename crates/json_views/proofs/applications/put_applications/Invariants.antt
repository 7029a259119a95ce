use Rattle.std.proofs.Common.{◌≡◌, ◌++◌, map}
use Rattle.json.specs.Tree.{items_tokens, json_tokens}
use Rattle.json_views.specs.Applications.{shown_application}
use Rattle.json_views.specs.Documents.{items_of}
use Rattle.json_views.specs.ShownLedgers.{shown_applications}
use Rattle.json_views.proofs.applications.put_applications.Given as goal

-- what is written, and the applications that are left, are all of them
abbrev pub invariant-loop-id : goal.invariant-loop-id
invariant-loop-id l = l.out ++ items_tokens (items_of (map shown_application l.id-iterator)) ≡ l.fn.out ++ json_tokens (shown_applications l.ledger)
