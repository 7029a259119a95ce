use Rattle.std.proofs.Common.{◌≡◌, ◌++◌}
use Rattle.avm_items.specs.LedgerItems.{put}
use Rattle.avm_stepper.specs.Changes.{local_changes_along, local_seen}
use Rattle.avm_stepper.proofs.changes.local_changes.Given as goal

-- the changes so far, and those of the written states that are left
abbrev pub invariant-loop-place : goal.invariant-loop-place
invariant-loop-place l =
    let before = put l.ledger l.prepared in
    local_seen l.changes.items ++ local_changes_along before l.id l.place-iterator ≡ local_changes_along before l.id (put before l.writes).local_states
