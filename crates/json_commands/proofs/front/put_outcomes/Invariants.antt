use Rattle.std.proofs.Common.{◌≡◌, ◌++◌, drop, map}
use Rattle.json.specs.Tree.{items_tokens, json_tokens}
use Rattle.json_views.specs.Documents.{array_of, items_of}
use Rattle.json_commands.specs.Pages.{shown_outcome}
use Rattle.json_commands.proofs.front.put_outcomes.Given as goal

-- what is written, and the outcomes that are left, are the array
abbrev pub invariant-loop-outcome : goal.invariant-loop-outcome
invariant-loop-outcome l = l.out ++ items_tokens (items_of (map shown_outcome (drop l.outcome-index l.outcomes))) ≡ l.fn.out ++ json_tokens (array_of shown_outcome l.outcomes)
