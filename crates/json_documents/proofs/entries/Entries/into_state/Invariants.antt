use Rattle.std.proofs.Common.{◌≡◌, ◌++◌, length}
use Rattle.json_documents.proofs.entries.Entries.into_state.Given as goal

-- what went into the state, and behind it what is left of the map, are all entries
abbrev pub invariant-loop-key : goal.invariant-loop-key
invariant-loop-key l = l.state ++ l.map.entries ≡ l.initial.map.entries

abbrev pub decreases-loop-key : goal.decreases-loop-key
decreases-loop-key l = length l.map.entries
