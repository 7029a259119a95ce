use Rattle.std.proofs.Common.{◌∷◌, drop}
use Rattle.teal_asm.specs.Program.{version_byte, encoding}
use Rattle.teal_asm.specs.Instructions.{all_meant}
use Rattle.teal_asm.proofs.Emitting.{WritesOn}
use Rattle.teal_asm.proofs.emit.encoded.Given as goal

abbrev pub invariant-loop-number : goal.invariant-loop-number
invariant-loop-number l = WritesOn l.code.items l.number (drop l.number (all_meant l.instructions)) (version_byte l.fn.version ∷ encoding 0 (all_meant l.instructions))
