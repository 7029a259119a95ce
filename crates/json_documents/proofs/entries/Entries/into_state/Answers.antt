use Rattle.json_documents.proofs.Moved.{moved}
use Rattle.json_documents.proofs.entries.Entries.into_state.Goals as goal

pub loop-key-preserved-in_ok-insert : goal.loop-key-preserved-in_ok-insert
loop-key-preserved-in_ok-insert c = moved _ _ _ _ _ _ c.len.ensures.ordered c.loop-key.invariant c.in-Some.ensures.removal c.in_ok-insert.ensures.set

pub loop-key-preserved-in_ok-insert-2 : goal.loop-key-preserved-in_ok-insert-2
loop-key-preserved-in_ok-insert-2 c = moved _ _ _ _ _ _ c.len.ensures.ordered c.loop-key.invariant c.in-Some.ensures.removal c.in_ok-insert.ensures.set

pub loop-key-preserved : goal.loop-key-preserved
loop-key-preserved c = moved _ _ _ _ _ _ c.len.ensures.ordered c.loop-key.invariant c.in-Some.ensures.removal c.in_ok-insert.ensures.set
