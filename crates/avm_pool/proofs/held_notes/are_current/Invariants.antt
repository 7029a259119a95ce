use Rattle.std.proofs.Common.{ℕ, ◌<◌, None, get_or, slice_index}
use Rattle.avm_pool.specs.Logged.{IsBeginning, IsCurrent}
use Rattle.avm_pool.proofs.held_notes.are_current.Given as goal

abbrev pub invariant-loop-index : goal.invariant-loop-index
invariant-loop-index g l = record {
  current : (i : ℕ) → i < l.index → IsCurrent l.low (slice_index l.last i) (get_or l.notes i None);
  begins : (i : ℕ) → i < l.index → IsBeginning l.whole (get_or l.notes i None);
}
