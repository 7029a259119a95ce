use Rattle.std.proofs.Common.{◌≡◌, drop}
use Rattle.json_documents.specs.Members.{is_among}
use Rattle.json_documents.specs.ShownSteps.{names_shown}
use Rattle.json_documents.proofs.members.is_among.Given as goal

-- the name is among those that are left where it is among all
abbrev pub invariant-loop-other : goal.invariant-loop-other
invariant-loop-other l = is_among (names_shown (drop l.other-index l.names)) l.name ≡ is_among (names_shown l.names) l.name
