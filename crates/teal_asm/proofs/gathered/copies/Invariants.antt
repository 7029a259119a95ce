use Rattle.std.proofs.Common.{◌≡◌, ◌++◌, map, drop}
use Rattle.teal_asm.proofs.Gathering.{items}
use Rattle.teal_asm.proofs.gathered.copies.Given as goal

-- the copies so far, and the values that are left, are all of them
abbrev pub invariant-loop-bytes : goal.invariant-loop-bytes
invariant-loop-bytes l = l.copies.items ++ map items (drop l.bytes-index l.values) ≡ map items l.values
