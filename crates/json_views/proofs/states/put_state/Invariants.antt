use Rattle.std.proofs.Common.{◌≡◌, ◌++◌, drop, map}
use Rattle.json.specs.Tree.{items_tokens, json_tokens}
use Rattle.json_views.specs.Documents.{items_of}
use Rattle.json_views.specs.States.{shown_entry, shown_state}
use Rattle.json_views.proofs.states.put_state.Given as goal

-- what is written, and the entries that are left, are the state
abbrev pub invariant-loop-key : goal.invariant-loop-key
invariant-loop-key l = l.out ++ items_tokens (items_of (map shown_entry (drop l.key-index l.state))) ≡ l.fn.out ++ json_tokens (shown_state l.state)
