use Rattle.std.proofs.Common.{◌≡◌, ◌++◌, ℕ, List}
use Rattle.std.specs.Io.KnownBytes.{Appends}
use Rattle.avm_input.proofs.replies.write_part.Given as goal

abbrev pub invariant-writes : goal.invariant-writes
invariant-writes g l = (written : List ℕ) × (l.initial.rest ≡ written ++ l.rest) × Appends (g.W.Write.contents l.initial.writer) (g.W.Write.contents l.writer) written
