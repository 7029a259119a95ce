use Rattle.std.proofs.Common.{◌≡◌, ℕ, ◌<◌, ◌≤◌, None, get_or, length}
use Rattle.avm_pool.specs.Logged.{raised_note}
use Rattle.avm_pool.proofs.held_notes.raise.Given as goal

abbrev pub invariant-loop-index : goal.invariant-loop-index
invariant-loop-index g l = record {
  count : length l.notes ≡ length l.fn.notes;
  before : (i : ℕ) → i < l.index → get_or l.notes i None ≡ raised_note l.low (get_or l.fn.notes i None);
  after : (i : ℕ) → l.index ≤ i → get_or l.notes i None ≡ get_or l.fn.notes i None;
}
