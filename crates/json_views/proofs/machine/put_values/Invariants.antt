use Rattle.std.proofs.Common.{◌≡◌, ◌++◌, drop, map}
use Rattle.json.specs.Tree.{items_tokens, json_tokens}
use Rattle.json_views.specs.Documents.{array_of, items_of}
use Rattle.json_views.specs.States.{shown_value}
use Rattle.json_views.proofs.machine.put_values.Given as goal

-- what is written, and the values that are left, are the array
abbrev pub invariant-loop-value : goal.invariant-loop-value
invariant-loop-value l = l.out ++ items_tokens (items_of (map shown_value (drop l.value-index l.values))) ≡ l.fn.out ++ json_tokens (array_of shown_value l.values)
