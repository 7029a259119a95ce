use Rattle.std.specs.Arc.{arc_value}
use Rattle.avm_pool.proofs.proposing.proposed.Given as goal

-- the book of the log that was just opened, and the draft that was handed in
abbrev pub ghosts-run_draft : goal.ghosts-run_draft
ghosts-run_draft g a = record { book = a.log.seen.book; base = arc_value a.draft.now.base.now; header = a.draft.now.header; calls = (arc_value a.draft.now.calls).items }
