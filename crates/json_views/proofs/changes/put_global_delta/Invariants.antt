use Rattle.std.proofs.Common.{◌≡◌, ◌++◌, drop, map}
use Rattle.json.specs.Tree.{items_tokens, json_tokens}
use Rattle.avm_stepper.specs.Changes.{changes_seen}
use Rattle.json_views.specs.Documents.{items_of}
use Rattle.json_views.specs.Changes.{shown_change, shown_global_delta}
use Rattle.json_views.proofs.changes.put_global_delta.Given as goal

-- what is written, and the changes that are left, are the array
abbrev pub invariant-loop-change : goal.invariant-loop-change
invariant-loop-change l = l.out ++ items_tokens (items_of (map shown_change (changes_seen (drop l.change-index l.changes)))) ≡ l.fn.out ++ json_tokens (shown_global_delta (changes_seen l.changes))
