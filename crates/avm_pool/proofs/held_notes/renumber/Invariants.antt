use Rattle.std.proofs.Common.{◌≡◌, ℕ, ◌<◌, ◌≤◌, None, get_or, if◌then◌else◌, is_some, length, slice_index}
use Rattle.avm_pool.proofs.held_notes.renumber.Given as goal

abbrev pub invariant-loop-index : goal.invariant-loop-index
invariant-loop-index g l = record {
  count : length l.last ≡ length l.fn.last;
  before : (i : ℕ) → i < l.index → slice_index l.last i ≡ (if is_some (get_or l.notes i None) then l.number else slice_index l.fn.last i);
  after : (i : ℕ) → l.index ≤ i → slice_index l.last i ≡ slice_index l.fn.last i;
}
