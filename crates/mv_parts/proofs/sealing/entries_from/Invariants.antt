use Rattle.std.specs.Prelude.{◌≡◌, ◌≤◌, length, take}
use Rattle.mv_parts.specs.MadeEntries.{AreBlockEntries}
use Rattle.mv_parts.proofs.sealing.entries_from.Given as goal

-- the entries before the index are made, and the first stand where they stood
abbrev pub invariant-loop-index : goal.invariant-loop-index
invariant-loop-index l = record {
  made : AreBlockEntries l.calls (take l.index l.entries) l.made.items;
  first : take (length l.fn.first.items) l.made.items ≡ l.fn.first.items;
  few : length l.fn.first.items ≤ length l.made.items;
}
