use Rattle.std.specs.Prelude.{take}
use Rattle.mv_parts.specs.MadeEntries.{AreBlockEntries}
use Rattle.mv_parts.proofs.sealing.are_first.Given as goal

-- those before the index are entries of the block
abbrev pub invariant-loop-index : goal.invariant-loop-index
invariant-loop-index l = AreBlockEntries l.calls (take l.index l.entries) (take l.index l.made)
