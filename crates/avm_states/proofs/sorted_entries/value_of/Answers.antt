use Rattle.std.proofs.Common.{ℕ, ◌<◌, ◌≤◌, sym, arith}
use Rattle.avm_states.proofs.sorted_entries.value_of.Goals as goal

within_offset : (m n : ℕ) → m < n → m ≤ n
within_offset m n h = omega arith

pub place_of-requires : goal.place_of-requires
place_of-requires g c = c.requires

pub offset_bounds-entries-place : goal.offset_bounds-entries-place
offset_bounds-entries-place g c = within_offset _ _ c.in-Ok.ensures.within

pub bounds-entries-place : goal.bounds-entries-place
bounds-entries-place g c = c.in-Ok.ensures.within

pub returns-in-Ok : goal.returns-in-Ok
returns-in-Ok g c = sym (c.in-Ok.ensures.value c.index-entries-place.result)

pub returns-in-Err : goal.returns-in-Err
returns-in-Err g c = sym c.in-Err.ensures.none
