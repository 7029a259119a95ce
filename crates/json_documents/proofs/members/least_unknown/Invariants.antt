use Rattle.std.proofs.Common.{◌≡◌, ◌≤◌, length, drop}
use Rattle.std.specs.Option.{option_map}
use Rattle.json.specs.Value.{members_view}
use Rattle.json_documents.specs.Members.{least_unknown}
use Rattle.json_documents.specs.ShownSteps.{names_shown}
use Rattle.json_documents.proofs.members.least_unknown.Given as goal

-- the name is the least of the members from here on
abbrev pub invariant-loop-left : goal.invariant-loop-left
invariant-loop-left l = (option_map (λ name. name.now) l.least ≡ least_unknown (names_shown l.names) (members_view (drop l.left l.members))) × (l.left ≤ length l.members)

abbrev pub decreases-loop-left : goal.decreases-loop-left
decreases-loop-left l = l.left
